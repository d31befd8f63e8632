-- The answer is the first of the shortest candidates that pass the tests.
use Rattle.std.proofs.Common.{arith, ◌≡◌, Bool, true, not, cond, ◌&&◌, List, [], ◌∷◌, ◌++◌, filter, refl, ◌∙◌, ap, Option, None, is_some}
use Rattle.std.proofs.lemmas.List.Elements.{filter-append}
use Rattle.iref_grammar.specs.{Characters.{CharTests}, Contexts.{alone}, Reference.{ReferenceValue}}
use Rattle.iref_grammar.specs.{Guard.{guarded}, NormalList.{normal, normal_segments}, Relative.{with_only_path}}
use Rattle.iref_grammar.specs.Relativized.{same_scheme_text, same_authority_text, same_path_text, same_query_text, empty_path, relative_path, is_climb, only_if, fragment_alone, climb_shortened, candidates, is_exact, shorter, shortest_exact, relativized}
use Rattle.iref_grammar.specs.RelativizedLaws.{AreReadable}
use Rattle.iref_grammar.specs.RelativizedTests.{is_settled, is_reachable, leading_candidates, shortest}
use Rattle.iref_grammar.proofs.LeadingCandidateLemmas.{whole-test, climb-test, authority-test, absolute-test, relative-test, fragment-test, tail-test}

filter_step : (b : Bool) (r : ReferenceValue) (rest : List ReferenceValue) (o : Option ReferenceValue) → o ≡ shortest rest → cond b (shorter r o) o ≡ shortest (cond b (r ∷ rest) rest)
filter_step b r rest o e = grind arith

shortest_exact-filter : (target base : ReferenceValue) (list : List ReferenceValue) → shortest_exact target base list ≡ shortest (filter (is_exact target base) list)
shortest_exact-filter target base [] = refl
shortest_exact-filter target base (r ∷ rest) = filter_step (is_exact target base r) r (filter (is_exact target base) rest) (shortest_exact target base rest) (shortest_exact-filter target base rest)

-- where the condition holds, the tests are the same
kept_if : (test : ReferenceValue → Bool) (condition other : Bool) (r : ReferenceValue) → (condition ≡ true → test r ≡ other) → filter test (only_if condition r) ≡ only_if (condition && other) r
kept_if test condition other r h = grind arith

kept_always : (test : ReferenceValue → Bool) (condition : Bool) (r : ReferenceValue) → (condition ≡ true → test r ≡ true) → filter test (only_if condition r) ≡ only_if condition r
kept_always test condition r h = grind arith

module _ (set : CharTests) (target base : ReferenceValue) (are : AreReadable set target base) (full : is_some target.scheme ≡ true) where
  abbrev leads : ReferenceValue → Bool
  leads r = is_exact target base r

  leading-candidates : filter leads (candidates target base) ≡ leading_candidates target base
  leading-candidates =
      let a = kept_always leads (same_path_text target base && same_query_text target base) (fragment_alone target) (fragment-test set target base are) in
      let b = kept_always leads (same_path_text target base && is_some target.query) (with_only_path empty_path target) (tail-test set target base are) in
      let c = kept_if leads (same_authority_text target base) (is_settled target && is_reachable target base) (with_only_path (relative_path target base) target) (relative-test set target base are) in
      let d = kept_if leads (same_authority_text target base && target.path.absolute) (is_settled target) (with_only_path (guarded alone (normal target.path)) target) (absolute-test set target base are) in
      let e = kept_if leads (same_scheme_text target base && is_some target.authority) (is_settled target) (record target { scheme = None }) (authority-test set target base are) in
      let f = kept_if leads true (is_settled target) target (λ h. whole-test set target base are full) in
      let g = kept_if leads (not target.path.absolute && is_climb (normal_segments target.path)) (is_settled target) (climb_shortened target) (climb-test set target base are full) in
      simp filter-append (λ i. a i ++ b i ++ c i ++ d i ++ e i ++ f i ++ g i)

  -- without resolution
  pub relativized-tested : relativized target base ≡ shortest (leading_candidates target base)
  unfolding relativized
  relativized-tested = shortest_exact-filter target base (candidates target base) ∙ ap shortest leading-candidates
