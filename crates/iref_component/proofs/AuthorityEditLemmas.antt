-- A part of an authority replaced in its text.
use Rattle.std.proofs.Common.{◌≡◌, ℕ, ◌+◌, Bool, true, [], ◌∷◌, ◌++◌, length, sym, ◌∙◌, length-append, append_assoc, arith, rules, subst, lit<, None, refl, ap}
use Rattle.std.proofs.{lemmas.Grind.{common_steps}, lemmas.List.{places, same_lists, append-nil}}
use Rattle.std.proofs.lemmas.Str.{IsCharBoundary-start, IsCharBoundary-end, IsCharBoundary-at_seam}
use Rattle.std.specs.{List.{splice}, Str.{IsCharBoundary, IsUtf8}}
use Rattle.iref_splice.specs.Changes.{IsWithin, with_mark}
use Rattle.iref_grammar.specs.{Characters.{CharTests, AreAboveAscii}, Rules.{Text}, Grammar.{at_sign, colon}}
use Rattle.iref_grammar.specs.{Texts.{part_then, then_part}, Tests.{is_user_info, is_host, is_port, none_or}}
use Rattle.iref_grammar.specs.Authority.{AuthorityValue, spell_authority, read_authority, is_authority, has_authority_parts}
use Rattle.iref_grammar.proofs.AuthorityLemmas.{read_authority-spelled}
use Rattle.iref_grammar.proofs.AuthorityRuleLemmas.{authority_read, Decides-has_authority_parts}
use Rattle.iref_grammar.proofs.SliceLemmas.{mark_boundary}
use Rattle.iref_grammar.specs.AuthoritySteps.{with_user_info, with_host, with_port}
use Rattle.iref_component.specs.AuthorityTexts.{SpellsAuthority, IsRangeOf, authority_is_text}
use Rattle.iref_splice.proofs.PartLemmas.{first_len}
use Rattle.iref_component.proofs.PathEditLemmas.{slice_all, splice_all}
use Rattle.iref_component.proofs.AuthorityPartLemmas.{user_info_in_rule, host_in_rule, port_in_rule}

-- ---- lists

middle_replaced : (a b c x : Text) → splice (a ++ b ++ c) (length a) (length a + length b) x ≡ a ++ x ++ c
middle_replaced a b c x = same_lists _ _ (search (rules, places)) (λ k d h. grind (arith, places))

-- ---- an authority with another part

-- a text that spells parts in their rules is read as them
pub spells_parts : (set : CharTests) → AreAboveAscii set → (text : Text) (value : AuthorityValue) → text ≡ spell_authority value → has_authority_parts set value ≡ true → SpellsAuthority set text value
unfolding is_authority
spells_parts set above text value e h = grind (arith, common_steps, authority_read, Decides-has_authority_parts)

parts_with : (set : CharTests) (a : AuthorityValue) → none_or (is_user_info set) a.user_info ≡ true → is_host set a.host ≡ true → none_or is_port a.port ≡ true → has_authority_parts set a ≡ true
unfolding has_authority_parts
parts_with set a u h p = grind arith

-- a is what the text, which is an authority, is read as
module _ (set : CharTests) (above : AreAboveAscii set) (text : Text) (a : AuthorityValue) (e : a ≡ read_authority text) (h : is_authority set text ≡ true) where
  abbrev user : Text
  user = part_then (at_sign ∷ []) a.user_info

  abbrev port : Text
  port = then_part (colon ∷ []) a.port

  text_is : text ≡ user ++ a.host ++ port
  unfolding spell_authority
  text_is = grind (arith, common_steps, read_authority-spelled)

  user_length : length user ≡ with_mark 1 a.user_info
  user_length = sym (first_len at_sign a.user_info)

  -- what follows the user info is text
  tail_is_text : IsUtf8 (a.host ++ port)
  unfolding spell_authority
  tail_is_text =
      let tail : AuthorityValue = record a { user_info = None } in
      grind (arith, common_steps, authority_is_text set above (a.host ++ port), spells_parts set above (a.host ++ port) tail, parts_with set tail, host_in_rule set text a, port_in_rule set text a)

  after_user : IsCharBoundary text (with_mark 1 a.user_info)
  after_user = subst (IsCharBoundary text) user_length (IsCharBoundary-at_seam text user (a.host ++ port) (text_is ∙ append_assoc user a.host port) tail_is_text)

  before_port : IsCharBoundary text (with_mark 1 a.user_info + length a.host)
  before_port =
      let front : length (user ++ a.host) ≡ with_mark 1 a.user_info + length a.host = omega (arith, user_length, length-append user a.host) in
      subst (IsCharBoundary text) front (mark_boundary colon (user ++ a.host) a.port text (lit< tt) (sym text_is))

  -- a part that stands between these
  range_of : {P : Type 0} (front part back : Text) (start end : ℕ) (in_rule : P → Bool) (spelled : P → Text) (step : P → AuthorityValue → AuthorityValue) → text ≡ front ++ part ++ back
      → start ≡ length front → end ≡ start + length part → IsCharBoundary text start → IsCharBoundary text end → ((x : P) → front ++ spelled x ++ back ≡ spell_authority (step x a))
      → ((x : P) → in_rule x ≡ true → has_authority_parts set (step x a) ≡ true) → IsRangeOf set text start end in_rule spelled step
  range_of front part back start end in_rule spelled step whole from to before after spells parts = record {
    within = record { start_le_end = omega (arith, to); start = before; end = after };
    replaced = λ x k.
        let new = (λ i. splice (whole i) (from i) ((to ∙ ap (λ n. n + length part) from) i) (spelled x)) ∙ middle_replaced front part back (spelled x) ∙ spells x in
        rw (← e) (spells_parts set above _ (step x a) new (parts x k));
  }

  pub user_info_range : IsRangeOf set text 0 (with_mark 1 a.user_info) (none_or (is_user_info set)) (part_then (at_sign ∷ [])) with_user_info
  unfolding spell_authority
  user_info_range =
      range_of [] user (a.host ++ port) 0 _ _ _ _ (text_is ∙ append_assoc user a.host port) refl (omega (arith, user_length)) (IsCharBoundary-start text (authority_is_text set above text h)) after_user
      (λ x. sym (append_assoc (part_then (at_sign ∷ []) x) a.host port))
      (λ x k. parts_with set (with_user_info x a) k (host_in_rule set text a e h) (port_in_rule set text a e h))

  pub host_range : IsRangeOf set text (with_mark 1 a.user_info) (with_mark 1 a.user_info + length a.host) (is_host set) (λ host. host) with_host
  unfolding spell_authority
  host_range =
      range_of user a.host port _ _ _ _ _ text_is (sym user_length) refl after_user before_port (λ x. refl)
      (λ x k. parts_with set (with_host x a) (user_info_in_rule set text a e h) k (port_in_rule set text a e h))

  pub port_range : IsRangeOf set text (with_mark 1 a.user_info + length a.host) (length text) (none_or is_port) (then_part (colon ∷ [])) with_port
  unfolding spell_authority
  port_range =
      range_of (user ++ a.host) port [] _ _ _ _ _ (text_is ∙ sym (append-nil (user ++ a.host ++ port))) (omega (arith, user_length, length-append user a.host))
      (omega (arith, user_length, ap length text_is, length-append (user ++ a.host) port, length-append user a.host)) before_port (IsCharBoundary-end text)
      (λ x. append-nil (user ++ a.host ++ then_part (colon ∷ []) x)) (λ x k. parts_with set (with_port x a) (user_info_in_rule set text a e h) (host_in_rule set text a e h) k)

-- ---- the whole

pub whole_within : (set : CharTests) → AreAboveAscii set → (text : Text) → is_authority set text ≡ true → IsWithin text (record { start = 0; end = length text })
whole_within set above text h = grind (arith, common_steps, IsCharBoundary-start, authority_is_text, IsCharBoundary-end)

pub whole_put : (set : CharTests) (text authority : Text) → is_authority set authority ≡ true → SpellsAuthority set (splice text 0 (length text) authority) (read_authority authority)
whole_put set text authority h = grind (arith, common_steps, splice_all text authority, read_authority-spelled)

-- what an edit of an editor of a whole text comes to
pub ruleset whole_steps = (splice_all, slice_all, read_authority-spelled)
