-- The answer is readable, so what it leads to is what its text leads to.
use Rattle.std.proofs.Common.{arith, ◌≡◌, ℕ, suc, Bool, true, false, not, cond, ◌&&◌, List, [], ◌∷◌, refl, sym, ◌∙◌, ap, Some, None, is_some, codes, true≢false}
use Rattle.std.proofs.{lemmas.Grind.{common_steps}, lemmas.Bool.{and_from, and_parts}}
use Rattle.std.proofs.lemmas.List.Folds.{list_all-append}
use Rattle.std.specs.List.{list_all}
use Rattle.iref_grammar.specs.{declared.context.PathContext.{PathContext}, Characters.{CharTests}, Rules.{Text}}
use Rattle.iref_grammar.specs.{Tests.{is_segment}, Texts.{all_but_last}, PathValue.{PathValue, is_one_empty}}
use Rattle.iref_grammar.specs.Contexts.{alone, fits, follows_authority, reads_as_path}
use Rattle.iref_grammar.specs.Reference.{ReferenceValue, is_readable}
use Rattle.iref_grammar.proofs.ReadablePartsLemmas.{readable_parts, readable_from}
use Rattle.iref_grammar.specs.{Guard.{guarded}, NormalList.{normal, normal_segments, kept_segments}}
use Rattle.iref_grammar.specs.Relative.{with_only_path}
use Rattle.iref_grammar.specs.Relativized.{same_scheme_text, same_authority_text, same_path_text, same_query_text, empty_path, base_directory, steps_by_text, is_climb, shortened, relative_path, only_if, fragment_alone, climb_shortened, candidates, relativized}
use Rattle.iref_grammar.proofs.{GuardLemmas.{guarded-fits}, JoinedLemmas.{climbs}, LeadingLemmas.{all_drop, all_last}}
use Rattle.iref_grammar.proofs.{NormalGrammarLemmas.{takes_dots}, ReadableRelativeLemmas.{only_path-readable}}
use Rattle.iref_grammar.proofs.StepSegmentLemmas.{TakesDots, normal-in, guarded-in, in-parents, in-shortened}
use Rattle.iref_grammar.proofs.WalkLemmas.{climb-is}
use Rattle.iref_grammar.proofs.{NormalWeightLemmas.{normal-none}, ChoiceLemmas.{answer_passes}}

-- ---- the segments of the relative path

module _ (test : Text → Bool) (dots : TakesDots test) where
  in-steps : (directory list : List Text) → list_all test list ≡ true → list_all test (steps_by_text directory list) ≡ true
  in-steps directory list h = grind (arith, common_steps, list_all-append, in-parents test dots, all_drop, all_last)

  in-shortened_list : (list : List Text) → list_all test list ≡ true → list_all test (shortened list) ≡ true
  in-shortened_list list h = by (is_climb list) (is_one_empty list)
    where
      by : (climb one : Bool) → list_all test (cond climb (all_but_last list) (cond one (codes "." ∷ []) list)) ≡ true
      by true one = in-shortened test list h
      by false true = and_from _ _ dots.dot refl
      by false false = h

-- ---- where a path may stand

-- after an authority the scheme makes no difference
reads_after : (has_scheme has_authority : Bool) (p : PathValue) → has_authority ≡ true → reads_as_path (record { has_scheme = has_scheme; has_authority = has_authority }) p ≡ true → reads_as_path (record { has_scheme = false; has_authority = has_authority }) p ≡ true
reads_after has_scheme has_authority p some h = grind arith

parents_stand : (has_scheme : Bool) (list : List Text) (n : ℕ) → list ≡ climbs (suc n) → fits (record { has_scheme = has_scheme; has_authority = false }) (record { absolute = false; segments = list }) ≡ true
parents_stand has_scheme list n e = grind arith

-- some `..` stand where a relative path stands
climb_stands : (has_scheme has_authority absolute : Bool) (segments : List Text) →
    let context : PathContext = record { has_scheme = has_scheme; has_authority = has_authority } in let p : PathValue = record { absolute = absolute; segments = segments } in
    follows_authority context p ≡ true → not absolute ≡ true → is_climb (normal_segments p) ≡ true → fits context (record { absolute = false; segments = all_but_last (normal_segments p) }) ≡ true
climb_stands has_scheme has_authority true segments follows relative climb = absurd (true≢false (sym relative))
climb_stands has_scheme false false segments follows relative climb = let is = climb-is (normal_segments (record { absolute = false; segments = segments })) climb in parents_stand has_scheme (all_but_last (normal_segments (record { absolute = false; segments = segments }))) is.0 is.2
climb_stands has_scheme true false [] follows relative climb = absurd (true≢false (sym climb ∙ ap is_climb (normal-none false)))
climb_stands has_scheme true false (s ∷ rest) follows relative climb = absurd (true≢false (sym follows))

-- ---- the candidates

module _ (set : CharTests) (target base : ReferenceValue) (readable : is_readable set target ≡ true) where
  abbrev pub passes : ReferenceValue → Bool
  passes r = is_readable set r

  passes_if : (condition : Bool) (r : ReferenceValue) → (condition ≡ true → passes r ≡ true) → list_all passes (only_if condition r) ≡ true
  passes_if condition r h = grind arith

  segments : list_all (is_segment set) target.path.segments ≡ true
  segments = (readable_parts set target readable).segments

  pub fragment-passes : passes (fragment_alone target) ≡ true
  fragment-passes = readable_from set (fragment_alone target) (record { scheme = refl; authority = refl; segments = refl; query = refl; fragment = (readable_parts set target readable).fragment; follows = refl; reads = refl })

  pub normal-passes : list_all (is_segment set) (normal_segments target.path) ≡ true
  normal-passes = normal-in (is_segment set) (takes_dots set) target.path segments

  pub guarded-passes : (p : PathValue) → list_all (is_segment set) p.segments ≡ true → passes (with_only_path (guarded alone p) target) ≡ true
  guarded-passes p own =
      only_path-readable set target (guarded alone p) readable
      (guarded-in (is_segment set) (takes_dots set) alone p own) (guarded-fits alone p)

  pub relative-passes : passes (with_only_path (relative_path target base) target) ≡ true
  relative-passes =
      let steps = steps_by_text (kept_segments (base_directory base)) (normal_segments target.path) in
      guarded-passes (record { absolute = false; segments = shortened steps })
      (in-shortened_list (is_segment set) (takes_dots set) steps (in-steps (is_segment set) (takes_dots set) (kept_segments (base_directory base)) (normal_segments target.path) normal-passes))

  pub authority-passes : is_some target.authority ≡ true → passes (record target { scheme = None }) ≡ true
  authority-passes some = grind (arith, readable_parts, readable_from, reads_after)

  pub climb-passes : (not target.path.absolute && is_climb (normal_segments target.path)) ≡ true → passes (climb_shortened target) ≡ true
  climb-passes h =
      let has = readable_parts set target readable in
      let both = and_parts (not target.path.absolute) (is_climb (normal_segments target.path)) h in
      let stands = and_parts _ _ (climb_stands (is_some target.scheme) (is_some target.authority) target.path.absolute target.path.segments has.follows both.0 both.1) in
      readable_from set (climb_shortened target)
      (record {
        scheme = has.scheme;
        authority = has.authority;
        segments = in-shortened (is_segment set) (normal_segments target.path) normal-passes;
        query = has.query;
        fragment = has.fragment;
        follows = stands.0;
        reads = stands.1;
      })

  all_pass : list_all passes (candidates target base) ≡ true
  all_pass =
      let no_path = only_path-readable set target empty_path readable refl refl in
      let a = passes_if (same_path_text target base && same_query_text target base) (fragment_alone target) (λ h. fragment-passes) in
      let b = passes_if (same_path_text target base && is_some target.query) (with_only_path empty_path target) (λ h. no_path) in
      let c = passes_if (same_authority_text target base) (with_only_path (relative_path target base) target) (λ h. relative-passes) in
      let d = passes_if (same_authority_text target base && target.path.absolute) (with_only_path (guarded alone (normal target.path)) target) (λ h. guarded-passes (normal target.path) normal-passes) in
      let e = passes_if (same_scheme_text target base && is_some target.authority) (record target { scheme = None }) (λ h. authority-passes (and_parts _ _ h).1) in
      let f = passes_if true target (λ h. readable) in
      let g = passes_if (not target.path.absolute && is_climb (normal_segments target.path)) (climb_shortened target) climb-passes in
      simp list_all-append (λ i. (((((a i && b i) && c i) && d i) && e i) && f i) && g i)

-- the answer is readable where the target is
pub relativized-readable : (set : CharTests) (target base r : ReferenceValue) → is_readable set target ≡ true → relativized target base ≡ Some r → is_readable set r ≡ true
unfolding relativized
relativized-readable set target base r readable some = answer_passes (λ s. is_readable set s) target base (candidates target base) r (all_pass set target base readable) some
