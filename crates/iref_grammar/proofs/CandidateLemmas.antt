-- Each candidate, where its condition holds and it serves, is among the candidates.
use Rattle.std.proofs.Common.{◌≡◌, ◌+◌, ◌≤◌, Bool, true, not, ◌&&◌, [], ◌∷◌, length}
use Rattle.std.proofs.Common.{refl, is_some, Option, None, arith, length-append}
use Rattle.std.specs.List.{list_any}
use Rattle.iref_grammar.specs.{Grammar.{colon, hash_sign}, Texts.{part_then, then_part}}
use Rattle.iref_grammar.specs.{Rules.{Text}, Authority.{AuthorityValue}, PathValue.{PathValue, spell_path}}
use Rattle.iref_grammar.specs.{Contexts.{alone}, Reference.{ReferenceValue, spell}}
use Rattle.iref_grammar.specs.{Guard.{guarded}, NormalList.{normal, normal_segments}, Relative.{with_only_path}}
use Rattle.iref_grammar.specs.Relativized.{same_scheme_text, same_authority_text, same_path_text, same_query_text, empty_path, relative_path, is_climb, fragment_alone, climb_shortened, candidates}
use Rattle.iref_grammar.specs.Relativized.{authority_text, query_text}
use Rattle.iref_grammar.proofs.{RelativeLemmas.{parts}, ChoiceLemmas.{any_only, any_left, any_right}}

-- the text of a reference is as long as its parts
pub length-spell : (r : ReferenceValue) → length (spell r)
    ≡ length (part_then (colon ∷ []) r.scheme) + length (authority_text r) + length (spell_path r.path) + length (query_text r)
    + length (then_part (hash_sign ∷ []) r.fragment)
unfolding spell
length-spell r = simp length-append

-- a shorter path makes a shorter reference
pub spell-lighter : (scheme : Option Text) (authority : Option AuthorityValue) (p other : PathValue) (query fragment : Option Text) → length (spell_path p) ≤ length (spell_path other)
    → length (spell (parts scheme authority p query fragment)) ≤ length (spell (parts scheme authority other query fragment))
spell-lighter scheme authority p other query fragment h = omega (arith, length-spell)

module _ (test : ReferenceValue → Bool) (target base : ReferenceValue) where
  pub any-fragment : (same_path_text target base && same_query_text target base) ≡ true → test (fragment_alone target) ≡ true → list_any test (candidates target base) ≡ true
  any-fragment h k = search (any_left, any_right, any_only, h, k) depth 12

  pub any-tail : (same_path_text target base && is_some target.query) ≡ true → test (with_only_path empty_path target) ≡ true → list_any test (candidates target base) ≡ true
  any-tail h k = search (any_left, any_right, any_only, h, k) depth 12

  pub any-relative : same_authority_text target base ≡ true → test (with_only_path (relative_path target base) target) ≡ true → list_any test (candidates target base) ≡ true
  any-relative h k = search (any_left, any_right, any_only, h, k) depth 12

  pub any-absolute : (same_authority_text target base && target.path.absolute) ≡ true → test (with_only_path (guarded alone (normal target.path)) target) ≡ true → list_any test (candidates target base) ≡ true
  any-absolute h k = search (any_left, any_right, any_only, h, k) depth 12

  pub any-authority : (same_scheme_text target base && is_some target.authority) ≡ true → test (record target { scheme = None }) ≡ true → list_any test (candidates target base) ≡ true
  any-authority h k = search (any_left, any_right, any_only, h, k) depth 12

  pub any-whole : test target ≡ true → list_any test (candidates target base) ≡ true
  any-whole k = search (any_left, any_right, any_only test true target refl k) depth 12

  pub any-climb : (not target.path.absolute && is_climb (normal_segments target.path)) ≡ true → test (climb_shortened target) ≡ true → list_any test (candidates target base) ≡ true
  any-climb h k = search (any_left, any_right, any_only, h, k) depth 12
