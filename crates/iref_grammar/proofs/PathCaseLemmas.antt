-- A reference with neither scheme nor authority has a candidate that is not longer.
use Rattle.std.proofs.Common.{◌≡◌, ◌≤◌, Bool, true, false, ◌&&◌, List, [], ◌∷◌, ◌++◌, length, refl, sym, ◌∙◌, ap, arith, Option, Some, None, subst, bytes_eq}
use Rattle.std.specs.List.{list_any}
use Rattle.iref_grammar.specs.{Rules.{Text}, Grammar.{colon}, Texts.{part_then}, PathValue.{PathValue, spell_path}}
use Rattle.iref_grammar.specs.{Contexts.{alone, follows_authority, fits}, Reference.{ReferenceValue, spell, context_of}}
use Rattle.iref_grammar.specs.{Guard.{guarded}, NormalList.{normal, normal_segments, kept_segments}}
use Rattle.iref_grammar.specs.Resolution.{resolved, merged}
use Rattle.iref_grammar.specs.Relativized.{authority_text, query_text, same_authority_text, empty_path, base_directory, steps_by_text, shortened, candidates}
use Rattle.iref_grammar.proofs.{RelativeLemmas.{parts}, SettledLemmas.{kept-is}, NormalPathLemmas.{normal-normalized}}
use Rattle.iref_grammar.proofs.{AddedLemmas.{guarded-same}, StepsLemmas.{same_text}, WeightLemmas.{path}}
use Rattle.iref_grammar.proofs.NormalWeightLemmas.{normal_light-root, not_longer}
use Rattle.iref_grammar.proofs.{RelativePathLemmas.{IsBestWalk, best_walk}, ChoiceLemmas.{serves, serves-from}}
use Rattle.iref_grammar.proofs.CandidateLemmas.{spell-lighter, any-fragment, any-tail, any-relative, any-absolute}
use Rattle.iref_grammar.proofs.FullCaseLemmas.{IsServed, flag_kept}
use Rattle.iref_grammar.proofs.PlacedLemmas.{flag-alone, only, placed, root_resolved, follows-merged, normal-merged, relative_resolved}

-- what is compared of target and base, where the target has the base's own
authority_here : (base : ReferenceValue) (p : PathValue) (query fragment : Option Text) → same_authority_text (parts base.scheme base.authority p query fragment) base ≡ true
authority_here base p query fragment = λ i. same_text (part_then (colon ∷ []) base.scheme) i && same_text (authority_text base) i

path_here : (base : ReferenceValue) (p : PathValue) → p ≡ base.path → bytes_eq (spell_path p) (spell_path base.path) ≡ true
path_here base p e = (λ i. bytes_eq (spell_path (e i)) (spell_path base.path)) ∙ same_text (spell_path base.path)

-- ---- the empty path

module _ (base : ReferenceValue) (fit : fits (context_of base) base.path ≡ true) (fragment : Option Text) where
  own_path : guarded (context_of base) base.path ≡ base.path
  own_path = guarded-same (context_of base) base.path fit

  pub empty_served : (query : Option Text) → IsServed base (parts None None empty_path query fragment)
  unfolding resolved
  empty_served None =
      let s = parts None None empty_path None fragment in
      let target = parts base.scheme base.authority (guarded (context_of base) base.path) base.query fragment in
      any-fragment (serves target base (length (spell s))) target base
      (λ i. (authority_here base (guarded (context_of base) base.path) base.query fragment i && path_here base (guarded (context_of base) base.path) own_path i) && same_text (query_text base) i)
      (serves-from target base (length (spell s)) s refl (omega arith))
  empty_served (Some query) =
      let s = parts None None empty_path (Some query) fragment in
      let target = parts base.scheme base.authority (guarded (context_of base) base.path) (Some query) fragment in
      any-tail (serves target base (length (spell s))) target base
      (λ i. (authority_here base (guarded (context_of base) base.path) (Some query) fragment i && path_here base (guarded (context_of base) base.path) own_path i) && true)
      (serves-from target base (length (spell s)) s refl (omega arith))

-- ---- a path from the root

pub root_served : (base : ReferenceValue) (query fragment : Option Text) (segments : List Text) → fits alone (path true segments) ≡ true → IsServed base (only query fragment (path true segments))
unfolding resolved
root_served base query fragment segments fit =
    let p = path true segments in
    let target = placed base query fragment (normal p) in
    let follows : follows_authority (context_of base) p ≡ true = grind arith in
    let same : normal target.path ≡ normal p = normal-normalized (context_of base) p follows in
    let root : target.path.absolute ≡ true = flag_kept (context_of base) p follows in
    let shorter : length (spell (only query fragment (guarded alone (normal p)))) ≤ length (spell (only query fragment p)) =
    spell-lighter None None (guarded alone (normal p)) p query fragment (not_longer alone true (normal_segments p) segments (flag-alone true (normal_segments p)) (normal_light-root alone segments fit)) in
    any-absolute (serves target base (length (spell (only query fragment p)))) target base (λ i. authority_here base target.path query fragment i && root i)
    (serves-from target base (length (spell (only query fragment p))) (only query fragment (guarded alone (normal target.path))) ((λ i. resolved base (only query fragment (guarded alone (same i)))) ∙ root_resolved base query fragment segments) (rw same shorter))

-- ---- a relative path

module _ (base : ReferenceValue) (follows : follows_authority (context_of base) base.path ≡ true) (query fragment : Option Text) (s : Text) (rest : List Text) (fit : fits alone (path false (s ∷ rest)) ≡ true) where
  abbrev walk : PathValue
  walk = path false (s ∷ rest)

  abbrev flag : Bool
  flag = (base_directory base).absolute

  abbrev directory : List Text
  directory = (base_directory base).segments

  abbrev target : ReferenceValue
  target = placed base query fragment (normal (merged base walk))

  abbrev list : List Text
  list = shortened (steps_by_text (kept_segments (base_directory base)) (normal_segments target.path))

  target-list : normal_segments target.path ≡ normal_segments (path flag (directory ++ s ∷ rest))
  target-list = ap (λ (q : PathValue). q.segments) (normal-normalized (context_of base) (merged base walk) (follows-merged base (s ∷ rest) follows) ∙ normal-merged base query fragment (s ∷ rest))

  best : IsBestWalk flag directory list (s ∷ rest)
  best = subst (λ l. IsBestWalk flag directory l (s ∷ rest)) (λ i. shortened (steps_by_text (sym (kept-is flag directory) i) (sym target-list i))) (best_walk flag directory s rest fit)

  exact : resolved base (only query fragment (guarded alone (path false list))) ≡ target
  exact = relative_resolved base query fragment list best.some ∙ ap (placed base query fragment) (ap (path flag) best.leads ∙ sym (normal-merged base query fragment (s ∷ rest)))

  shorter : length (spell (only query fragment (guarded alone (path false list)))) ≤ length (spell (only query fragment walk))
  shorter = spell-lighter None None (guarded alone (path false list)) walk query fragment (not_longer alone false list (s ∷ rest) (flag-alone false list) best.light)

  served_target : list_any (serves target base (length (spell (only query fragment walk)))) (candidates target base) ≡ true
  served_target = any-relative (serves target base (length (spell (only query fragment walk)))) target base (authority_here base target.path query fragment)
      (serves-from target base (length (spell (only query fragment walk))) (only query fragment (guarded alone (path false list))) exact shorter)

  pub relative_served : IsServed base (only query fragment walk)
  unfolding resolved
  relative_served = served_target
