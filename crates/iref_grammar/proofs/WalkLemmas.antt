-- Where a list of segments leads from a directory: how many `..` it leaves open, and what stays of it.
use Rattle.std.proofs.Common.{◌≡◌, ℕ, zero, suc, ◌+◌, ◌-◌, Bool, true, false, not, cond, ◌&&◌, List, [], ◌∷◌, ◌++◌, length, refl, sym, ◌∙◌, ap, arith, codes, append_assoc, true≢false}
use Rattle.std.proofs.{lemmas.Grind.{common_steps}, lemmas.Bool.{and_parts}}
use Rattle.std.specs.{List.{list_all}, Cmp.Lexicographic.{bytes_decides}}
use Rattle.iref_grammar.specs.{Rules.{Text}, Texts.{is_empty, all_but_last}, PathValue.{PathValue, is_one_empty}}
use Rattle.iref_grammar.specs.NormalList.{is_dot_dot, staying_names, ends_in_dots, closed, without_lone_empty, normal_segments, open_parents}
use Rattle.iref_grammar.specs.{Relative.{last_or_empty}, Relativized.{is_climb, shortened}}
use Rattle.iref_grammar.proofs.JoinedLemmas.{without_last, open-append, staying-append, are_names, all_first, climbs, open-climbs, staying-climbs}
use Rattle.iref_grammar.proofs.SettledLemmas.{ends-append, staying-settled, open-settled, leading, normal-is}
use Rattle.iref_grammar.proofs.LeadingLemmas.{divided_last}

-- ---- what a walk adds

-- what stays of the list, and an empty segment after a last `.` or `..`
abbrev pub ended : List Text → List Text
ended walk = cond (ends_in_dots walk) (staying_names walk ++ [] ∷ []) (staying_names walk)

-- the segments reached from a directory by a walk that leaves this many `..` open and adds this list
abbrev pub reached : Bool → List Text → ℕ → List Text → List Text
reached absolute directory opened list =
    climbs (leading absolute directory + cond absolute 0 (opened - length (staying_names directory)))
    ++ (without_last opened (staying_names directory) ++ list)

leading-append : (absolute : Bool) (directory walk : List Text) → leading absolute (directory ++ walk) ≡ leading absolute directory + cond absolute 0 (open_parents walk - length (staying_names directory))
leading-append absolute directory walk = grind (arith, open-append)

lone-closed : (list : List Text) → without_lone_empty (closed list) ≡ without_lone_empty (list ++ [] ∷ [])
lone-closed [] = refl
lone-closed (s ∷ list) = refl

by_end : (n : ℕ) (front walk_names : List Text) (ends : Bool) →
    without_lone_empty (cond ends (closed (climbs n ++ (front ++ walk_names))) (climbs n ++ (front ++ walk_names)))
    ≡ without_lone_empty (climbs n ++ (front ++ cond ends (walk_names ++ [] ∷ []) walk_names))
by_end n front names false = refl
by_end n front names true =
    lone-closed (climbs n ++ (front ++ names))
    ∙ ap without_lone_empty (append_assoc (climbs n) (front ++ names) ([] ∷ []) ∙ ap (λ l. climbs n ++ l) (append_assoc front names ([] ∷ [])))

-- the normal list of a directory and a walk
pub normal-walk : (absolute : Bool) (directory : List Text) (s : Text) (rest : List Text) → let p : PathValue = record { absolute = absolute; segments = directory ++ s ∷ rest } in
    normal_segments p ≡ without_lone_empty (reached absolute directory (open_parents (s ∷ rest)) (ended (s ∷ rest)))
normal-walk absolute directory s rest =
    let walk = s ∷ rest in
    normal-is absolute (directory ++ walk)
    ∙ (λ i. let list = climbs (leading-append absolute directory walk i) ++ staying-append directory walk i in without_lone_empty (cond (ends-append directory s rest i) (closed list) list))
    ∙ by_end (leading absolute directory + cond absolute 0 (open_parents walk - length (staying_names directory))) (without_last (open_parents walk) (staying_names directory)) (staying_names walk) (ends_in_dots walk)

-- two walks that lead alike from everywhere
pub record LeadAlike (walk other : List Text) : Type 0 where
  pub some : is_empty walk ≡ false
  pub other_some : is_empty other ≡ false
  pub opened : open_parents walk ≡ open_parents other
  pub list : ended walk ≡ ended other

pub same_normal : (absolute : Bool) (directory walk other : List Text) → LeadAlike walk other
    → let p : PathValue = record { absolute = absolute; segments = directory ++ walk } in let q : PathValue = record { absolute = absolute; segments = directory ++ other } in normal_segments p ≡ normal_segments q
same_normal absolute directory [] other alike = absurd (true≢false alike.some)
same_normal absolute directory (s ∷ rest) [] alike = absurd (true≢false alike.other_some)
same_normal absolute directory (s ∷ rest) (t ∷ more) alike =
    normal-walk absolute directory s rest ∙ (λ i. without_lone_empty (reached absolute directory (alike.opened i) (alike.list i))) ∙ sym (normal-walk absolute directory t more)

pub alike-refl : (a : List Text) → is_empty a ≡ false → LeadAlike a a
alike-refl a h = record { some = h; other_some = h; opened = refl; list = refl }

-- a `.` before a walk
pub alike-dot : (s : Text) (rest : List Text) → LeadAlike (codes "." ∷ s ∷ rest) (s ∷ rest)
unfolding staying_names
alike-dot s rest = record { some = refl; other_some = refl; opened = refl; list = refl }

-- `.` for the empty segment
pub alike-here : LeadAlike (codes "." ∷ []) ([] ∷ [])
unfolding staying_names
alike-here = record { some = refl; other_some = refl; opened = refl; list = refl }

ends-climbs : (n : ℕ) → ends_in_dots (climbs (suc n)) ≡ true
ends-climbs zero = refl
ends-climbs (suc n) = ends-climbs n

-- what a walk of `..` and names adds
pub ended-names : (n : ℕ) (s : Text) (names : List Text) → are_names (s ∷ names) ≡ true → ended (climbs n ++ s ∷ names) ≡ s ∷ names
ended-names n s names h = grind (arith, common_steps, staying-settled, ends-append, Rattle.iref_grammar.proofs.SettledLemmas.ends-names)

-- `..` for `../`
pub alike-climb : (n : ℕ) → LeadAlike (climbs (suc n)) (climbs (suc n) ++ [] ∷ [])
alike-climb n = record {
  some = refl;
  other_some = refl;
  opened = open-climbs (suc n) ∙ sym (open-settled (suc n) ([] ∷ []) refl);
  list = (λ i. cond (ends-climbs n i) (staying-climbs (suc n) i ++ [] ∷ []) (staying_names (climbs (suc n)))) ∙ sym (ended-names (suc n) [] [] refl);
}

-- ---- the shortened list

all_climbs : (list : List Text) → list_all is_dot_dot list ≡ true → list ≡ climbs (length list)
all_climbs [] h = refl
all_climbs (s ∷ list) h =
    let parts = all_first is_dot_dot s list h in
    λ i. (bytes_decides s (codes "..")).0 (parts.0) i ∷ all_climbs list parts.1 i

some_length : (list : List Text) → is_empty list ≡ false → (n : ℕ) × (length list ≡ suc n)
some_length [] h = absurd (true≢false h)
some_length (s ∷ list) h = (length list, refl)

pub nothing-in : {A : Type 0} (list : List A) → is_empty list ≡ true → list ≡ []
nothing-in [] h = refl
nothing-in (x ∷ list) h = absurd (true≢false (sym h))

-- a list of `..` and an empty segment, written out
pub climb-is : (list : List Text) → is_climb list ≡ true → (n : ℕ) × (list ≡ climbs (suc n) ++ [] ∷ []) × (all_but_last list ≡ climbs (suc n))
climb-is [] h = absurd (true≢false (sym h))
climb-is (s ∷ rest) h =
    let list = s ∷ rest in
    let outer = and_parts (is_empty (last_or_empty list) && not (is_empty (all_but_last list))) (list_all is_dot_dot (all_but_last list)) h in
    let inner = and_parts (is_empty (last_or_empty list)) (not (is_empty (all_but_last list))) outer.0 in
    let some : is_empty (all_but_last list) ≡ false = grind (arith, inner.1) in
    let size = some_length (all_but_last list) some in
    let front : all_but_last list ≡ climbs (suc size.0) = all_climbs (all_but_last list) outer.1 ∙ ap climbs size.1 in
    (size.0, sym (divided_last s rest) ∙ (λ i. front i ++ nothing-in (last_or_empty list) inner.0 i ∷ []), front)

one_empty-is : (list : List Text) → is_one_empty list ≡ true → list ≡ [] ∷ []
one_empty-is [] h = absurd (true≢false (sym h))
one_empty-is (s ∷ rest) h = grind arith

pub climb_alike : (list front : List Text) (n : ℕ) → list ≡ climbs (suc n) ++ [] ∷ [] → front ≡ climbs (suc n) → LeadAlike front list
climb_alike list front n e f = rw (e, f) (alike-climb n)

-- it leads where the list does
pub alike-shortened : (list : List Text) → is_empty list ≡ false → LeadAlike (shortened list) list
alike-shortened list some = by (is_climb list) (is_one_empty list) refl refl
  where
    by : (climb one : Bool) → is_climb list ≡ climb → is_one_empty list ≡ one → LeadAlike (cond climb (all_but_last list) (cond one (codes "." ∷ []) list)) list
    by true one e f = (let is = climb-is list e in climb_alike list (all_but_last list) is.0 is.1 is.2)
    by false true e f = rw (one_empty-is list f) alike-here
    by false false e f = alike-refl list some
