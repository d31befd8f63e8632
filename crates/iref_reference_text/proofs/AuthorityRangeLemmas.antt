-- The authority of a reference where it stands, and after an edit of it.
use Rattle.std.proofs.{Common.{◌≡◌, ℕ, ◌+◌, Bool, true, length, sym, ◌∙◌, ap, arith, Option, Some, is_some, option_map}, lemmas.Grind.{common_steps}}
use Rattle.std.specs.{List.{splice}, declared.ops.Range.{Range}}
use Rattle.iref_grammar.specs.{Characters.{CharTests, AreAboveAscii}, Rules.{Text}, Tests.{none_or}}
use Rattle.iref_grammar.specs.Authority.{AuthorityValue, is_authority, read_authority, spell_authority}
use Rattle.iref_grammar.specs.ComponentOffsets.{offsets_in, offsets_of, text_at}
use Rattle.iref_grammar.specs.Reference.{ReferenceValue, is_reference, read_reference, spell}
use Rattle.iref_grammar.proofs.AuthorityLemmas.{read_authority-spelled}
use Rattle.iref_grammar.proofs.AuthorityRuleLemmas.{authority_read, Decides-has_authority_parts}
use Rattle.iref_grammar.proofs.{RangeLemmas.{authority_range}, ReadablePartsLemmas.{readable_parts}}
use Rattle.iref_grammar.specs.ComponentSteps.{with_authority_step}
use Rattle.iref_grammar.proofs.ReferenceStepLemmas.{with_whole_authority-readable}
use Rattle.iref_splice.specs.{Changes.{IsWithin}, declared.change.Span.{Span}}
use Rattle.iref_reference_text.specs.AuthorityRanges.{IsAuthorityOf, authority_part, range_of_authority}
use Rattle.iref_reference_text.specs.ComponentLengths.{HasLengths, lengths_of, with_mark}
use Rattle.iref_reference_text.proofs.EditLemmas.{authority_part_replaced, authority_read as authority_has_parts, is_step, readable_of}
use Rattle.iref_reference_text.proofs.ReferenceTextLemmas.{components_of, offsets_within}

-- ---- where it stands

module _ (text : Text) (has : is_some (read_reference text).authority ≡ true) where
  pub authority_stands : (offsets_of text).authority ≡ Some (range_of_authority text)
  unfolding offsets_of offsets_in
  authority_stands = grind (arith, common_steps)

  pub authority_spelled_there : option_map spell_authority (read_reference text).authority ≡ Some (authority_part text)
  authority_spelled_there = sym (authority_range text) ∙ ap (option_map (text_at text)) authority_stands

module _ (set : CharTests) (above : AreAboveAscii set) (text : Text) (h : is_reference set text ≡ true) (has : is_some (read_reference text).authority ≡ true) where
  -- it is read there
  pub authority_read_there : (read_reference text).authority ≡ Some (read_authority (authority_part text))
  authority_read_there =
      grind (arith, authority_read set above, Decides-has_authority_parts set above, readable_parts set (read_reference text) (readable_of set text h), authority_spelled_there text has)

  pub authority_in_rule : is_authority set (authority_part text) ≡ true
  authority_in_rule = ap (none_or (is_authority set)) (sym (authority_spelled_there text has)) ∙ (components_of set above text h).authority

-- ---- what is known where a range is

pub some_if_placed : (text : Text) (range : Range ℕ) → (offsets_of text).authority ≡ Some range → is_some (read_reference text).authority ≡ true
unfolding offsets_of offsets_in
some_if_placed text range e = grind arith

pub range_is : (text : Text) (range : Range ℕ) → (offsets_of text).authority ≡ Some range → range ≡ range_of_authority text
range_is text range e = let there = authority_stands text (some_if_placed text range e) in cc

pub authority_range_within : (set : CharTests) → AreAboveAscii set → (text : Text) (at : Span) → IsAuthorityOf set text at.start at.end → IsWithin text (record { start = at.start; end = at.end })
authority_range_within set above text at stands = rw stands.1 at (offsets_within set above text stands.0).authority

-- ---- after an edit

authority_text_replaced : (text part : Text) → is_some (read_reference text).authority ≡ true
    → splice text (range_of_authority text).start (range_of_authority text).end part ≡ spell (with_authority_step (λ a. read_authority part) (read_reference text))
authority_text_replaced text part has = rw read_authority-spelled at (authority_part_replaced text (read_authority part) has)

range_of_new_authority : (old new part : Text) → is_some (read_reference old).authority ≡ true → read_reference new ≡ with_authority_step (λ a. read_authority part) (read_reference old)
    → let start = (range_of_authority old).start in (offsets_of new).authority ≡ Some (record { start = start; end = start + length part })
unfolding offsets_of offsets_in
range_of_new_authority old new part has e = grind (arith, read_authority-spelled)

length_of_new_authority : (o : Option AuthorityValue) (part : Text) → is_some o ≡ true → 2 + length part ≡ with_mark 2 (option_map spell_authority (option_map (λ a. read_authority part) o))
length_of_new_authority o part h = grind (arith, read_authority-spelled)

-- the new authority stands where the old one did, and the other components stay
pub record HoldsAuthority (set : CharTests) (test : Text → Bool) (old : ReferenceValue) (start : ℕ) (part new : Text) : Type 0 where
  pub stands : IsAuthorityOf set new start (start + length part)
  pub leaves : HasLengths test (record (lengths_of old) { authority = 2 + length part }) new

module _ (set : CharTests) (above : AreAboveAscii set) (test : Text → Bool) (allows : Option Text → Bool)
    (by_scheme : (text : Text) → is_reference set text ≡ true → allows (read_reference text).scheme ≡ true → test text ≡ true)
    (references : (text : Text) → test text ≡ true → is_reference set text ≡ true)
    (text : Text) (at : Span) (stands : IsAuthorityOf set text at.start at.end) (allowed : allows (read_reference text).scheme ≡ true) where
  pub authority_put : (part new : Text) → is_authority set part ≡ true → new ≡ splice text at.start at.end part → HoldsAuthority set test (read_reference text) at.start part new
  authority_put part new h e =
      let old = read_reference text in
      let has = some_if_placed text _ stands.1 in
      let same = range_is text _ stands.1 in
      let spelled = e ∙ ap (λ (range : Range ℕ). splice text range.start range.end part) same ∙ authority_text_replaced text part has in
      let readable = with_whole_authority-readable set (read_authority part) old (authority_has_parts set (Some part) h) (readable_of set text stands.0) in
      let step = is_step set above test allows by_scheme new (with_authority_step (λ a. read_authority part) old) spelled readable allowed in
      grind (arith, references new, step, same, range_of_new_authority text new part has, length_of_new_authority old.authority part has)
