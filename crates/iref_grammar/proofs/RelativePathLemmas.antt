-- The relative path of the definition leads where a given one does, and is not longer.
use Rattle.std.proofs.Common.{◌≡◌, ℕ, zero, suc, ◌+◌, ◌-◌, ◌*◌, ◌≤◌, Bool, true, false, List, [], ◌∷◌, ◌++◌, length, drop, refl, sym, ◌∙◌, ap, arith, true≢false}
use Rattle.iref_grammar.specs.{Rules.{Text}, Texts.{is_empty}, Contexts.{alone, fits}}
use Rattle.iref_grammar.specs.NormalList.{staying_names, normal_segments, without_lone_empty, open_parents}
use Rattle.iref_grammar.specs.Relativized.{steps_by_text, shortened}
use Rattle.iref_grammar.proofs.{JoinedLemmas.{are_names, climbs}, SettledLemmas.{leading}}
use Rattle.iref_grammar.proofs.FitsLemmas.{is_empty-append}
use Rattle.iref_grammar.proofs.WalkLemmas.{ended, reached, normal-walk, same_normal, LeadAlike, alike-shortened}
use Rattle.iref_grammar.proofs.WeightLemmas.{path, weight, weight-append, weight-climbs, walk_weighs, adds_nothing, nothing-added, added_weighs, added_some, added_names}
use Rattle.iref_grammar.proofs.{AddedLemmas.{added_light}, StepsLemmas.{common, steps-lone, steps_from, steps-front}}
use Rattle.iref_grammar.proofs.StepsWeightLemmas.{guarded_weight, guarded-climbs, relative_light, climb_light}
use Rattle.iref_grammar.proofs.DividedLemmas.{normal-some, IsDivided, above_steps, divided}

-- ---- lists that are not empty

some_list : (list : List Text) → is_empty list ≡ false → (s : Text) × (rest : List Text) × (list ≡ s ∷ rest)
some_list [] h = absurd (true≢false h)
some_list (s ∷ rest) h = (s, rest, refl)

steps-front_some : (front more list : List Text) → is_empty list ≡ false → steps_by_text (front ++ more) (front ++ list) ≡ steps_from more list
steps-front_some front more [] h = absurd (true≢false h)
steps-front_some front more (s ∷ rest) h = steps-front front more s rest

relative_light-some : (more list : List Text) (size : ℕ) → is_empty list ≡ false → 2 ≤ size → 3 * length more + weight list ≤ size → guarded_weight list ≤ size → guarded_weight (shortened (steps_from more list)) ≤ size
relative_light-some more [] size some two h k = absurd (true≢false some)
relative_light-some more (s ∷ rest) size some two h k = relative_light more s rest size two h k

-- ---- what a walk weighs that may stand alone

two_at_least : (s : Text) (rest : List Text) → fits alone (path false (s ∷ rest)) ≡ true → 2 ≤ weight (s ∷ rest)
two_at_least [] rest fit = absurd (true≢false (sym fit))
two_at_least (c ∷ s) rest fit = omega arith

common-none : (more : List Text) → common more [] ≡ 0
common-none [] = refl
common-none (s ∷ more) = refl

-- the steps to some `..` and an empty segment
lone_steps : (more : List Text) (n : ℕ) → are_names more ≡ true → steps_from more (climbs n ++ [] ∷ []) ≡ climbs (length more + n) ++ [] ∷ []
lone_steps more zero are =
    let all : length more - 0 ≡ length more + 0 = omega arith in
    (λ i. climbs (length more - common-none more i) ++ drop (common-none more i) ([] ∷ [])) ∙ (λ i. climbs (all i) ++ [] ∷ [])
lone_steps more (suc n) are = above_steps more n [] [] are

-- what the walk adds, behind its guard
climbed_added : (n : ℕ) (s : Text) (rest : List Text) → fits alone (path false (s ∷ rest)) ≡ true → adds_nothing (s ∷ rest) ≡ false → n ≤ open_parents (s ∷ rest) → guarded_weight (climbs n ++ ended (s ∷ rest)) ≤ weight (s ∷ rest)
climbed_added zero s rest fit some h = added_light alone false s rest fit some refl
climbed_added (suc n) s rest fit some h =
    let same = guarded-climbs n (ended (s ∷ rest)) in
    let joined = weight-append (climbs (suc n)) (ended (s ∷ rest)) in
    let size = weight-climbs (suc n) in
    let weighs = added_weighs (s ∷ rest) some in
    omega arith

-- the shortened steps are not longer than the walk
steps_light : (more : List Text) (n : ℕ) (s : Text) (rest : List Text) → are_names more ≡ true → length more + n ≤ open_parents (s ∷ rest) → fits alone (path false (s ∷ rest)) ≡ true
    → guarded_weight (shortened (steps_from more (climbs n ++ ended (s ∷ rest)))) ≤ weight (s ∷ rest)
steps_light more n s rest are fewest fit = by (adds_nothing (s ∷ rest)) refl
  where
    two : 2 ≤ weight (s ∷ rest)
    two = two_at_least s rest fit

    some : is_empty (climbs n ++ ended (s ∷ rest)) ≡ false
    some = (let list = some_list (ended (s ∷ rest)) (added_some (s ∷ rest) refl) in ap (λ l. is_empty (climbs n ++ l)) list.2 ∙ is_empty-append (climbs n) list.0 list.1)

    by : (nothing : Bool) → adds_nothing (s ∷ rest) ≡ nothing → guarded_weight (shortened (steps_from more (climbs n ++ ended (s ∷ rest)))) ≤ weight (s ∷ rest)
    by true e =
        let same = ap (λ l. guarded_weight (shortened l)) (ap (λ l. steps_from more (climbs n ++ l)) (nothing-added (s ∷ rest) e) ∙ lone_steps more n are) in
        let weighs = walk_weighs (s ∷ rest) in
        let light = climb_light (length more + n) (weight (s ∷ rest)) two (omega arith) in
        omega arith
    by false e =
        let joined = weight-append (climbs n) (ended (s ∷ rest)) in
        let size = weight-climbs n in
        let weighs = added_weighs (s ∷ rest) e in
        relative_light-some more (climbs n ++ ended (s ∷ rest)) (weight (s ∷ rest)) some two (omega arith) (climbed_added n s rest fit e (omega arith))

-- ---- from a directory

-- the list leads from the directory where the walk does, and is not longer behind its guard
pub record IsBestWalk (absolute : Bool) (directory list walk : List Text) : Type 0 where
  pub some : is_empty list ≡ false
  pub leads : normal_segments (path absolute (directory ++ list)) ≡ normal_segments (path absolute (directory ++ walk))
  pub light : guarded_weight list ≤ weight walk

-- the steps to a list that is reached with some `..` and some names
module _ (absolute : Bool) (directory : List Text) (parents : ℕ) (t : Text) (more list : List Text) (are : are_names (t ∷ more) ≡ true) (is : list ≡ without_lone_empty (reached absolute directory parents (t ∷ more))) where
  parts : IsDivided absolute directory parents t more
  parts = divided absolute directory parents t more are

  abbrev here : List Text
  here = steps_from parts.more (climbs parts.higher ++ t ∷ more)

  steps-here : steps_by_text (climbs (leading absolute directory) ++ staying_names directory) list ≡ here
  steps-here =
      ap (steps_by_text (climbs (leading absolute directory) ++ staying_names directory)) is
      ∙ steps-lone (climbs (leading absolute directory) ++ staying_names directory) (reached absolute directory parents (t ∷ more))
      ∙ (λ i. steps_by_text (parts.directory_is i) (parts.reached_is i))
      ∙ steps-front_some parts.front parts.more (climbs parts.higher ++ t ∷ more) (is_empty-append (climbs parts.higher) t more)

  alike-here : LeadAlike (shortened here) here
  alike-here = alike-shortened here parts.some

  here_leads : normal_segments (path absolute (directory ++ shortened here)) ≡ list
  here_leads = same_normal absolute directory (shortened here) here alike-here ∙ normal-some absolute directory here parts.some ∙ ap without_lone_empty parts.leads ∙ sym is

  -- lead there
  pub steps_lead_there :
      (is_empty (shortened (steps_by_text (climbs (leading absolute directory) ++ staying_names directory) list)) ≡ false)
      × (normal_segments (path absolute (directory ++ shortened (steps_by_text (climbs (leading absolute directory) ++ staying_names directory) list))) ≡ list)
  steps_lead_there = rw steps-here (alike-here.some, here_leads)

  -- and are not longer than a walk that leads there
  steps_light_there : (s : Text) (rest : List Text) → parents ≡ open_parents (s ∷ rest) → ended (s ∷ rest) ≡ t ∷ more → fits alone (path false (s ∷ rest)) ≡ true
      → guarded_weight (shortened (steps_by_text (climbs (leading absolute directory) ++ staying_names directory) list)) ≤ weight (s ∷ rest)
  steps_light_there s rest opened adds fit =
      let fewest = parts.fewest in
      let light = steps_light parts.more parts.higher s rest parts.names (omega arith) fit in
      let same : guarded_weight (shortened (steps_from parts.more (climbs parts.higher ++ ended (s ∷ rest)))) ≡ guarded_weight (shortened here) = ap (λ l. guarded_weight (shortened (steps_from parts.more (climbs parts.higher ++ l)))) adds in
      let there : guarded_weight (shortened (steps_by_text (climbs (leading absolute directory) ++ staying_names directory) list)) ≡ guarded_weight (shortened here) = ap (λ l. guarded_weight (shortened l)) steps-here in
      omega arith

-- the steps that the definition takes
pub best_walk : (absolute : Bool) (directory : List Text) (s : Text) (rest : List Text) → fits alone (path false (s ∷ rest)) ≡ true
    → IsBestWalk absolute directory (shortened (steps_by_text (climbs (leading absolute directory) ++ staying_names directory) (normal_segments (path absolute (directory ++ s ∷ rest))))) (s ∷ rest)
best_walk absolute directory s rest fit =
    let added = some_list (ended (s ∷ rest)) (added_some (s ∷ rest) refl) in
    let parents = open_parents (s ∷ rest) in
    let list = normal_segments (path absolute (directory ++ s ∷ rest)) in
    let are : are_names (added.0 ∷ added.1) ≡ true = ap are_names (sym added.2) ∙ added_names (s ∷ rest) in
    let is : list ≡ without_lone_empty (reached absolute directory parents (added.0 ∷ added.1)) = normal-walk absolute directory s rest ∙ (λ i. without_lone_empty (reached absolute directory parents (added.2 i))) in
    let there = steps_lead_there absolute directory parents added.0 added.1 list are is in
    record {
      some = there.0;
      leads = there.1;
      light = steps_light_there absolute directory parents added.0 added.1 list are is s rest refl added.2 fit;
    }
