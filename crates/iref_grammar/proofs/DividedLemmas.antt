-- A base's directory and a list reached from it begin alike; the steps from the one lead to the other.
use Rattle.std.proofs.Common.{◌≡◌, ℕ, zero, suc, ◌+◌, ◌-◌, ◌≤◌, Bool, true, false, cond, List, [], ◌∷◌, ◌++◌, length, take, drop, refl, sym, ◌∙◌, ap, arith, append_assoc, length-append, inl, inr, take-append-drop, bytes_eq, true≢false}
use Rattle.std.proofs.{lemmas.Bool.{cases_lt}, lemmas.List.{length-drop, replicate-append-replicate, take-append-le}}
use Rattle.std.proofs.{lemmas.List.Sums.{common_prefix_len-le}, Math.Seq.{take-append-add}}
use Rattle.iref_grammar.specs.{Rules.{Text}, Texts.{is_empty, all_but_last}, PathValue.{PathValue}}
use Rattle.iref_grammar.specs.NormalList.{is_name, staying_names, without_lone_empty, normal_segments, open_parents}
use Rattle.iref_grammar.specs.Relative.{last_or_empty}
use Rattle.iref_grammar.proofs.FitsLemmas.{is_empty-append}
use Rattle.iref_grammar.proofs.JoinedLemmas.{without_last, are_names, are_names-staying, climbs}
use Rattle.iref_grammar.proofs.{SettledLemmas.{leading, open-settled}, LeadingLemmas.{divided_last, all_drop}}
use Rattle.iref_grammar.proofs.WalkLemmas.{ended, ended-names, reached, normal-walk}
use Rattle.iref_grammar.proofs.StepsLemmas.{common, take-common, common-climbs, all_but_last-append, length-front, steps_from}

-- the normal list of a directory and a walk that is not empty
pub normal-some : (absolute : Bool) (directory walk : List Text) → is_empty walk ≡ false → let p : PathValue = record { absolute = absolute; segments = directory ++ walk } in
    normal_segments p ≡ without_lone_empty (reached absolute directory (open_parents walk) (ended walk))
normal-some absolute directory [] h = absurd (true≢false h)
normal-some absolute directory (s ∷ rest) h = normal-walk absolute directory s rest

-- the directory as far as it is left, the names that are left of it, and how many `..` are added
pub record IsDivided (absolute : Bool) (directory : List Text) (parents : ℕ) (s : Text) (rest : List Text) : Type 0 where
  pub front : List Text
  pub more : List Text
  pub higher : ℕ
  pub directory_is : climbs (leading absolute directory) ++ staying_names directory ≡ front ++ more
  pub reached_is : reached absolute directory parents (s ∷ rest) ≡ front ++ (climbs higher ++ s ∷ rest)
  pub names : are_names more ≡ true
  pub fewest : length more + higher ≤ parents
  pub some : is_empty (steps_from more (climbs higher ++ s ∷ rest)) ≡ false
  pub leads :
      reached absolute directory (open_parents (steps_from more (climbs higher ++ s ∷ rest))) (ended (steps_from more (climbs higher ++ s ∷ rest)))
      ≡ reached absolute directory parents (s ∷ rest)

-- ---- what the steps to a list of names add

some_dropped : (n : ℕ) (list : List Text) → n + 1 ≤ length list → (t : Text) × (more : List Text) × (drop n list ≡ t ∷ more)
some_dropped zero [] h = absurd (omega arith)
some_dropped (suc n) [] h = absurd (omega arith)
some_dropped zero (s ∷ rest) h = (s, rest, refl)
some_dropped (suc n) (s ∷ rest) h = some_dropped n rest (omega arith)

-- how much of the names is shared with the list
abbrev shared : List Text → Text → List Text → ℕ
shared more s rest = common more (all_but_last (s ∷ rest))

steps-opened : (more : List Text) (s : Text) (rest : List Text) → are_names (s ∷ rest) ≡ true → open_parents (steps_from more (s ∷ rest)) ≡ length more - shared more s rest
steps-opened more s rest are = open-settled (length more - shared more s rest) (drop (shared more s rest) (s ∷ rest)) (all_drop is_name (shared more s rest) (s ∷ rest) are)

ended-some : (n : ℕ) (list : List Text) (t : Text) (more : List Text) → list ≡ t ∷ more → are_names list ≡ true → ended (climbs n ++ list) ≡ list
ended-some n list t more e are = rw e (ended-names n t more (ap are_names (sym e) ∙ are))

shared_within : (more : List Text) (s : Text) (rest : List Text) → shared more s rest + 1 ≤ length (s ∷ rest)
shared_within more s rest = let within = (common_prefix_len-le bytes_eq more (all_but_last (s ∷ rest))).1 in let size = length-front s rest in omega arith

steps-ended : (more : List Text) (s : Text) (rest : List Text) → are_names (s ∷ rest) ≡ true → ended (steps_from more (s ∷ rest)) ≡ drop (shared more s rest) (s ∷ rest)
steps-ended more s rest are =
    let some = some_dropped (shared more s rest) (s ∷ rest) (shared_within more s rest) in
    ended-some (length more - shared more s rest) (drop (shared more s rest) (s ∷ rest)) some.0 some.1 some.2 (all_drop is_name (shared more s rest) (s ∷ rest) are)

-- the names shared, and the rest of the list
taken_shared : (more : List Text) (s : Text) (rest : List Text) → take (shared more s rest) more ≡ take (shared more s rest) (s ∷ rest)
taken_shared more s rest =
    let c = shared more s rest in
    take-common more (all_but_last (s ∷ rest))
    ∙ sym (take-append-le c (all_but_last (s ∷ rest)) (last_or_empty (s ∷ rest) ∷ []) (common_prefix_len-le bytes_eq more (all_but_last (s ∷ rest))).1)
    ∙ ap (take c) (divided_last s rest)

rejoined : (left more : List Text) (s : Text) (rest : List Text) → let c = shared more s rest in
    without_last (length more - c) (left ++ more) ++ drop c (s ∷ rest) ≡ left ++ s ∷ rest
rejoined left more s rest =
    let c = shared more s rest in
    let within = (common_prefix_len-le bytes_eq more (all_but_last (s ∷ rest))).0 in
    let size = length-append left more in
    let kept : length (left ++ more) - (length more - c) ≡ length left + c = omega arith in
    (λ i. take (kept i) (left ++ more) ++ drop c (s ∷ rest))
    ∙ (λ i. (take-append-add left more c ∙ ap (λ l. left ++ l) (taken_shared more s rest)) i ++ drop c (s ∷ rest))
    ∙ append_assoc left (take c (s ∷ rest)) (drop c (s ∷ rest)) ∙ ap (λ l. left ++ l) (take-append-drop c (s ∷ rest))

-- the steps do not climb above the names
stays_below : (absolute : Bool) (left more : List Text) (c : ℕ) → cond absolute 0 ((length more - c) - length (left ++ more)) ≡ 0
stays_below true left more c = refl
stays_below false left more c = let size = length-append left more in omega arith

-- from a directory with these names, the steps lead back to them and to the list
below_leads : (absolute : Bool) (directory left more : List Text) (s : Text) (rest : List Text) → staying_names directory ≡ left ++ more → are_names (s ∷ rest) ≡ true
    → reached absolute directory (open_parents (steps_from more (s ∷ rest))) (ended (steps_from more (s ∷ rest))) ≡ climbs (leading absolute directory) ++ (left ++ s ∷ rest)
below_leads absolute directory left more s rest e are =
    let c = shared more s rest in
    let top = leading absolute directory in
    let same : top + 0 ≡ top = omega arith in
    (λ i. reached absolute directory (steps-opened more s rest are i) (steps-ended more s rest are i))
    ∙ (λ i. climbs (top + cond absolute 0 ((length more - c) - length (e i))) ++ (without_last (length more - c) (e i) ++ drop c (s ∷ rest)))
    ∙ (λ i. climbs (top + stays_below absolute left more c i) ++ rejoined left more s rest i)
    ∙ ap (λ n. climbs n ++ (left ++ s ∷ rest)) same

-- ---- the two cases

steps-some : (more : List Text) (s : Text) (rest : List Text) → is_empty (steps_from more (s ∷ rest)) ≡ false
steps-some more s rest =
    let some = some_dropped (shared more s rest) (s ∷ rest) (shared_within more s rest) in
    (λ i. is_empty (climbs (length more - shared more s rest) ++ some.2 i)) ∙ is_empty-append (climbs (length more - shared more s rest)) some.0 some.1

-- all that is added stands below the directory's own `..`
below : (absolute : Bool) (directory : List Text) (parents : ℕ) (s : Text) (rest : List Text) → are_names (s ∷ rest) ≡ true → cond absolute 0 (parents - length (staying_names directory)) ≡ 0
    → IsDivided absolute directory parents s rest
below absolute directory parents s rest are none =
    let top = leading absolute directory in
    let names = staying_names directory in
    let n = length names - parents in
    let left = take n names in
    let more = drop n names in
    let parts : names ≡ left ++ more = sym (take-append-drop n names) in
    let same : top + 0 ≡ top = omega arith in
    let size = length-drop n names in
    let reaches : reached absolute directory parents (s ∷ rest) ≡ climbs top ++ (left ++ s ∷ rest) = (λ i. climbs (top + none i) ++ (left ++ s ∷ rest)) ∙ (λ i. climbs (same i) ++ (left ++ s ∷ rest)) in
    record {
      front = climbs top ++ left;
      more = more;
      higher = 0;
      directory_is = ap (λ l. climbs top ++ l) parts ∙ sym (append_assoc (climbs top) left more);
      reached_is = reaches ∙ sym (append_assoc (climbs top) left (s ∷ rest));
      names = all_drop is_name n names (are_names-staying directory);
      fewest = omega arith;
      some = steps-some more s rest;
      leads = below_leads absolute directory left more s rest parts are ∙ sym reaches;
    }

-- the walk climbs above all names of a relative directory
pub above_steps : (names : List Text) (n : ℕ) (s : Text) (rest : List Text) → are_names names ≡ true → steps_from names (climbs (suc n) ++ s ∷ rest) ≡ climbs (length names + suc n) ++ s ∷ rest
above_steps names n s rest are =
    let list = climbs (suc n) ++ s ∷ rest in
    let nothing : common names (all_but_last list) ≡ 0 = ap (common names) (all_but_last-append (climbs (suc n)) s rest) ∙ common-climbs names n (all_but_last (s ∷ rest)) are in
    let all : length names - 0 ≡ length names = omega arith in
    (λ i. climbs (length names - nothing i) ++ drop (nothing i) list)
    ∙ (λ i. climbs (all i) ++ list)
    ∙ sym (append_assoc (climbs (length names)) (climbs (suc n)) (s ∷ rest)) ∙ ap (λ l. l ++ s ∷ rest) (replicate-append-replicate (length names) (suc n) _)

above : (directory : List Text) (n : ℕ) (s : Text) (rest : List Text) → are_names (s ∷ rest) ≡ true → IsDivided false directory (length (staying_names directory) + suc n) s rest
above directory n s rest are =
    let top = leading false directory in
    let names = staying_names directory in
    let parents = length names + suc n in
    let steps = above_steps names n s rest (are_names-staying directory) in
    let higher : parents - length names ≡ suc n = omega arith in
    let none : length names - parents ≡ 0 = omega arith in
    record {
      front = climbs top;
      more = names;
      higher = suc n;
      directory_is = refl;
      reached_is = (λ i. climbs (top + higher i) ++ (take (none i) names ++ s ∷ rest)) ∙ ap (λ l. l ++ s ∷ rest) (sym (replicate-append-replicate top (suc n) _)) ∙ append_assoc (climbs top) (climbs (suc n)) (s ∷ rest);
      names = are_names-staying directory;
      fewest = omega arith;
      some = ap is_empty steps ∙ is_empty-append (climbs parents) s rest;
      leads = (λ i. reached false directory (open_parents (steps i)) (ended (steps i))) ∙ (λ i. reached false directory (open-settled parents (s ∷ rest) are i) (ended-names parents s rest are i));
    }

-- directory and list begin alike, whatever walk leads from the one to the other
pub divided : (absolute : Bool) (directory : List Text) (parents : ℕ) (s : Text) (rest : List Text) → are_names (s ∷ rest) ≡ true → IsDivided absolute directory parents s rest
divided true directory parents s rest are = below true directory parents s rest are refl
divided false directory parents s rest are = elim (cases_lt (length (staying_names directory)) parents) [
  | inl less ↦
      let n = parents - length (staying_names directory) - 1 in
      let is : length (staying_names directory) + suc n ≡ parents = omega (arith, less) in
      rw (← is) (above directory n s rest are)
  | inr most ↦ (let none : parents - length (staying_names directory) ≡ 0 = omega (arith, most) in below false directory parents s rest are none)
]
