-- What an edit leaves is the spelling of the step of the value.
use Rattle.std.proofs.Common.{◌≡◌, ◌+◌, Bool, true, [], ◌∷◌, ◌++◌, length, rules, sym, ◌∙◌, ap, arith, append_assoc, codes, Option, is_some, option_map, Result, Ok, Err, OnOk}
use Rattle.std.proofs.{lemmas.Grind.{common_steps}, lemmas.Str.{IsCharBoundary-end, IsCharBoundary-start}}
use Rattle.std.proofs.lemmas.List.{places, same_lists}
use Rattle.std.specs.{List.{splice}, Str.{IsCharBoundary}}
use Rattle.iref_grammar.proofs.{ReferenceRuleLemmas.{Decides-is_uri_reference}, ReadableLemmas.{readable_read}}
use Rattle.iref_grammar.proofs.{ReferenceCutLemmas.{read_reference-spelled}, PathTestLemmas.{is_path-segments}}
use Rattle.iref_grammar.specs.{Characters.{CharTests, AreAboveAscii}, Rules.{Text}}
use Rattle.iref_grammar.specs.{Grammar.{colon, question_mark, hash_sign}, Texts.{part_then, then_part}}
use Rattle.iref_grammar.specs.Authority.{AuthorityValue, spell_authority, read_authority, is_authority, has_authority_parts}
use Rattle.iref_grammar.specs.PathValue.{PathValue, read_path, spell_path}
use Rattle.iref_grammar.specs.Reference.{ReferenceValue, context_of, spell, read_reference, is_readable, is_reference}
use Rattle.iref_grammar.specs.ComponentOffsets.{offsets_in, offsets_of}
use Rattle.iref_grammar.specs.Tests.{is_fragment, is_path, is_query, is_scheme, none_or}
use Rattle.iref_grammar.specs.ComponentSteps.{with_query, with_fragment, with_path, with_new_normal_path, with_authority, with_authority_step, with_scheme}
use Rattle.iref_grammar.specs.Guard.{guarded}
use Rattle.iref_grammar.proofs.ReferenceStepLemmas.{with_authority-readable, with_fragment-readable, with_new_normal_path-readable, with_path-readable, with_query-readable, with_scheme-readable}
use Rattle.iref_reference_text.specs.{AuthorityRanges.{range_of_authority}, declared.lengths.Lengths.{Lengths}}
use Rattle.iref_reference_text.specs.ComponentLengths.{fragment_after, HasLengths, lengths_of, path_after, query_after}
use Rattle.iref_reference_text.specs.Steps.{Spells}
use Rattle.iref_splice.specs.Changes.{IsWithin}
use Rattle.iref_reference_text.proofs.ReferenceTextLemmas.{authority_mark_within, fragment_mark_within, in_rule_utf8, offsets_within}
use Rattle.iref_reference_text.proofs.LengthLemmas.{fragment_after-lengths, path_after-lengths, query_after-lengths, total-read}
use Rattle.iref_splice.proofs.PartLemmas.{first_len}

pub readable_of : (set : CharTests) (text : Text) → is_reference set text ≡ true → is_readable set (read_reference text) ≡ true
unfolding is_reference
readable_of set text h = h

-- ---- a readable reference with a scheme that the rule allows

-- its spelling is in the rule and is read back
pub record IsStep (test : Text → Bool) (new : Text) (r : ReferenceValue) : Type 0 where
  pub leaves : HasLengths test (lengths_of r) new
  pub value : read_reference new ≡ r

pub is_step : (set : CharTests) → AreAboveAscii set → (test : Text → Bool) (allows : Option Text → Bool)
    → ((text : Text) → is_reference set text ≡ true → allows (read_reference text).scheme ≡ true → test text ≡ true)
    → (new : Text) (r : ReferenceValue) → new ≡ spell r → is_readable set r ≡ true → allows r.scheme ≡ true → IsStep test new r
unfolding is_reference
is_step set above test allows allowed new r e h k =
    let read : read_reference new ≡ r = ap read_reference e ∙ readable_read set above r h in
    record {
      leaves = record {
        in_rule = allowed new (ap (is_readable set) read ∙ h) (ap (λ (x : ReferenceValue). allows x.scheme) read ∙ k);
        lengths = ap lengths_of (sym read);
      };
      value = read;
    }

pub spells : (test : Text → Bool) (new : Text) (r : ReferenceValue) → IsStep test new r → Spells r new
spells test new r step = (sym (read_reference-spelled new) ∙ ap spell step.value, step.value)

-- what an edit answers for
pub after_ok : {V E P Q : Type 0} (result : Result V E) → (P → Q) → OnOk result P → OnOk result Q
after_ok (Ok v) f h = f h
after_ok (Err e) f h = h

-- ---- the parts of a spelling, with some of them replaced

module _ (s a p q f new : Text) where
  scheme_spliced : splice (s ++ a ++ p ++ q ++ f) 0 (length s) new ≡ new ++ a ++ p ++ q ++ f
  scheme_spliced = same_lists _ _ (search (rules, places)) (λ k d h. grind (arith, places))

  marked_spliced : (mark : Text) → splice (s ++ (mark ++ a) ++ p ++ q ++ f) (length s + length mark) (length s + length (mark ++ a)) new ≡ s ++ (mark ++ new) ++ p ++ q ++ f
  marked_spliced mark = same_lists _ _ (search (rules, places)) (λ k d h. grind (arith, places))

  authority_spliced : splice (s ++ a ++ p ++ q ++ f) (length s) (length s + length a) new ≡ s ++ new ++ p ++ q ++ f
  authority_spliced = same_lists _ _ (search (rules, places)) (λ k d h. grind (arith, places))

  path_spliced : splice (s ++ a ++ p ++ q ++ f) (length s + length a) (length s + length a + length p) new ≡ s ++ a ++ new ++ q ++ f
  path_spliced = same_lists _ _ (search (rules, places)) (λ k d h. grind (arith, places))

  query_spliced : splice (s ++ a ++ p ++ q ++ f) (length s + length a + length p) (length s + length a + length p + length q) new ≡ s ++ a ++ p ++ new ++ f
  query_spliced = same_lists _ _ (search (rules, places)) (λ k d h. grind (arith, places))

  fragment_spliced : splice (s ++ a ++ p ++ q ++ f) (length s + length a + length p + length q) (length (s ++ a ++ p ++ q ++ f)) new ≡ s ++ a ++ p ++ q ++ new
  fragment_spliced = same_lists _ _ (search (rules, places)) (λ k d h. grind (arith, places))

module _ (text : Text) where
  abbrev r : ReferenceValue
  r = read_reference text

  abbrev s : Text
  s = part_then (colon ∷ []) r.scheme

  abbrev a : Text
  a = then_part (codes "//") (option_map spell_authority r.authority)

  abbrev p : Text
  p = spell_path r.path

  abbrev q : Text
  q = then_part (question_mark ∷ []) r.query

  abbrev f : Text
  f = then_part (hash_sign ∷ []) r.fragment

  spelled : text ≡ s ++ a ++ p ++ q ++ f
  unfolding spell
  spelled = sym (read_reference-spelled text)

  abbrev l : Lengths
  l = lengths_of r

  pub query_replaced : (query : Option Text) → splice text (query_after l) (fragment_after l) (then_part (question_mark ∷ []) query) ≡ spell (with_query query r)
  unfolding spell
  query_replaced query = grind (arith, spelled, query_after-lengths r, fragment_after-lengths r, query_spliced)

  pub fragment_replaced : (fragment : Option Text) → splice text (fragment_after l) (length text) (then_part (hash_sign ∷ []) fragment) ≡ spell (with_fragment fragment r)
  unfolding spell
  fragment_replaced fragment = grind (arith, spelled, fragment_after-lengths r, fragment_spliced)

  pub path_replaced : (path : PathValue) → splice text (offsets_of text).path.start (offsets_of text).path.end (spell_path path) ≡ spell (record r { path = path })
  unfolding spell offsets_of offsets_in
  path_replaced path = grind (arith, spelled, path_spliced)

  pub authority_part_replaced : (value : AuthorityValue) → is_some r.authority ≡ true
      → splice text (range_of_authority text).start (range_of_authority text).end (spell_authority value) ≡ spell (with_authority_step (λ a. value) r)
  unfolding spell offsets_of offsets_in
  authority_part_replaced value has =
      let there = λ (old : AuthorityValue). marked_spliced s (spell_authority old) p q f (spell_authority value) (codes "//") in
      grind (arith, spelled, there)

  pub authority_replaced : (authority : Option AuthorityValue) (path : PathValue) (guard : Text) → guard ++ p ≡ spell_path path
      → splice text l.scheme (path_after l) (then_part (codes "//") (option_map spell_authority authority) ++ guard) ≡ spell (record r { authority = authority; path = path })
  unfolding spell
  authority_replaced authority path guard e = rw (← e) (simp append_assoc (grind (arith, common_steps, spelled, first_len colon, path_after-lengths r, authority_spliced)))

  pub scheme_replaced : (scheme : Option Text) (path : PathValue) (guard : Text) → guard ++ a ++ p ≡ a ++ spell_path path
      → splice text 0 l.scheme (part_then (colon ∷ []) scheme ++ guard) ≡ spell (record r { scheme = scheme; path = path })
  unfolding spell
  scheme_replaced scheme path guard e = grind (arith, common_steps, spelled, first_len colon, scheme_spliced)

-- ---- where the parts stand in a text

pub authority_read : (set : CharTests) (o : Option Text) → none_or (is_authority set) o ≡ true → none_or (has_authority_parts set) (option_map read_authority o) ≡ true
unfolding is_authority
authority_read set o h = grind arith

pub with_scheme-parts : (new : Option Text) (r : ReferenceValue) → record r { scheme = new; path = (with_scheme new r).path } ≡ with_scheme new r
unfolding with_scheme
with_scheme-parts new r = grind arith

module _ (set : CharTests) (above : AreAboveAscii set) (text : Text) (h : is_reference set text ≡ true) where
  abbrev lengths : Lengths
  lengths = lengths_of (read_reference text)

  pub path_starts : IsCharBoundary text (path_after lengths)
  unfolding offsets_of offsets_in
  path_starts = rw path_after-lengths (offsets_within set above text h).path.start

  pub path_ends : IsCharBoundary text (query_after lengths)
  unfolding offsets_of offsets_in
  path_ends = rw query_after-lengths (offsets_within set above text h).path.end

  pub front_ends : IsCharBoundary text (fragment_after lengths)
  front_ends = rw fragment_after-lengths (fragment_mark_within set above text h)

  scheme_ends : IsCharBoundary text (lengths.scheme)
  scheme_ends = rw (first_len colon) (authority_mark_within set above text h)

  pub query_within : IsWithin text (record { start = query_after lengths; end = fragment_after lengths })
  query_within = record { start_le_end = omega arith; start = path_ends; end = front_ends }

  pub fragment_within : IsWithin text (record { start = fragment_after lengths; end = length text })
  fragment_within = record { start_le_end = front_ends.0; start = front_ends; end = IsCharBoundary-end text }

  pub path_within : IsWithin text (record { start = path_after lengths; end = query_after lengths })
  path_within = record { start_le_end = omega arith; start = path_starts; end = path_ends }

  pub authority_within : IsWithin text (record { start = lengths.scheme; end = path_after lengths })
  authority_within = record { start_le_end = omega arith; start = scheme_ends; end = path_starts }

  start_within : IsCharBoundary text 0
  start_within = IsCharBoundary-start text (in_rule_utf8 _ text ((Decides-is_uri_reference set above text).0 h))

  pub scheme_within : IsWithin text (record { start = 0; end = lengths.scheme })
  scheme_within = record { start_le_end = omega arith; start = start_within; end = scheme_ends }

-- ---- the edits of a readable reference with a scheme that the rule allows

module _ (set : CharTests) (above : AreAboveAscii set) (test : Text → Bool) (allows : Option Text → Bool)
    (by_scheme : (text : Text) → is_reference set text ≡ true → allows (read_reference text).scheme ≡ true → test text ≡ true)
    (r : ReferenceValue) (h : is_readable set r ≡ true) (k : allows r.scheme ≡ true) (new : Text) where
  pub query_set : (query : Option Text) → none_or (is_query set) query ≡ true → new ≡ spell (with_query query r) → IsStep test new (with_query query r)
  query_set query q e = is_step set above test allows by_scheme new (with_query query r) e (with_query-readable set query r q h) k

  pub fragment_set : (fragment : Option Text) → none_or (is_fragment set) fragment ≡ true → new ≡ spell (with_fragment fragment r) → IsStep test new (with_fragment fragment r)
  fragment_set fragment q e = is_step set above test allows by_scheme new (with_fragment fragment r) e (with_fragment-readable set fragment r q h) k

  pub path_set : (path : Text) → is_path set path ≡ true → new ≡ spell (record r { path = guarded (context_of r) (read_path path) }) → IsStep test new (with_path (read_path path) r)
  unfolding with_path
  path_set path q e = is_step set above test allows by_scheme new (with_path (read_path path) r) e (with_path-readable set (read_path path) r (sym (is_path-segments set above path) ∙ q) h) k

  pub normal_path_set : (path : Text) → is_path set path ≡ true → let normal = with_new_normal_path (read_path path) r in new ≡ spell (record r { path = normal.path }) → IsStep test new normal
  unfolding with_path
  normal_path_set path q e =
      is_step set above test allows by_scheme new (with_new_normal_path (read_path path) r) e (with_new_normal_path-readable set (read_path path) r (sym (is_path-segments set above path) ∙ q) h) k

  pub authority_set : (authority : Option Text) → none_or (is_authority set) authority ≡ true → let value = option_map read_authority authority in
      new ≡ spell (record r { authority = value; path = (with_authority value r).path }) → IsStep test new (with_authority value r)
  unfolding with_authority
  authority_set authority q e =
      let value = option_map read_authority authority in
      is_step set above test allows by_scheme new (with_authority value r) e (with_authority-readable set value r (authority_read set authority q) h) k

  pub scheme_set : (scheme : Option Text) → none_or is_scheme scheme ≡ true → allows scheme ≡ true → let value = record r { scheme = scheme; path = (with_scheme scheme r).path } in
      new ≡ spell value → IsStep test new value
  scheme_set scheme q a e = is_step set above test allows by_scheme new _ e (ap (is_readable set) (with_scheme-parts scheme r) ∙ with_scheme-readable set scheme r q h) a

pub ruleset replaces = (authority_replaced, query_replaced, fragment_replaced, scheme_replaced)

pub ruleset reads = (readable_of, total-read)
