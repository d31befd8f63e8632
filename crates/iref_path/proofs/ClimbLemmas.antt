-- The `..` of a normal list that is read from its end.
use Rattle.std.proofs.Common.{◌≡◌, ℕ, zero, suc, ◌+◌, ◌≤◌, Bool, true, false, not, ◌&&◌, nat_lt, List, [], ◌∷◌, ◌++◌, length, drop, refl, ◌∙◌, ap, arith, ◌==◌, codes, replicate}
use Rattle.std.proofs.{lemmas.Grind.{common_steps}, lemmas.Bool.Decides.{nat_tests}, lemmas.List.{append-nil}}
use Rattle.std.specs.List.{list_all}
use Rattle.iref_grammar.specs.{Rules.{Text}, Texts.{is_empty}, PathValue.{is_one_empty}}
use Rattle.iref_grammar.specs.NormalList.{count_parents, is_dot_dot, kept_segments}
use Rattle.iref_grammar.specs.{NormalReading.{leading_parents, open_before, staying_before}, Relative.{last_or_empty}}
use Rattle.iref_grammar.specs.Relativized.{is_climb}
use Rattle.iref_grammar.proofs.{DirectoryLemmas.{all_but_last-snoc}, FitsLemmas.{is_empty-snoc}}
use Rattle.iref_grammar.proofs.{ItemLemmas.{name_no_parent}, JoinedLemmas.{are_names, parents-names}}
use Rattle.iref_grammar.proofs.{NormalLemmas.{excess-is}, StayingLemmas.{open_parents-is, staying_names-is}}
use Rattle.iref_path.specs.{ShortestPaths.{are_some_parents}, Spelling.{each_closed}, StepsBetween.{last_ones}}
use Rattle.iref_path.proofs.NormalItemsLemmas.{all_last, length-last, parts_left, unread-sound}
use Rattle.iref_path.proofs.SpellLemmas.{kept_size, list_size}

-- what is kept of a path, read from the back
pub kept-read : (absolute : Bool) (segments : List Text) → kept_segments (record { absolute = absolute; segments = segments }) ≡ leading_parents absolute (open_before segments 0) ++ staying_before segments 0
kept-read absolute segments = grind (arith, common_steps, excess-is, open_parents-is, staying_names-is)

-- it is not longer than the segments are
pub kept-length : (absolute : Bool) (list : List Text) → length (kept_segments (record { absolute = absolute; segments = list })) ≤ length (each_closed list)
kept-length absolute list = grind (arith, common_steps, kept-read absolute list, kept_size list, list_size (staying_before list 0))

-- ---- the names that are left

names-stay : (list : List Text) (n : ℕ) → are_names (staying_before list n) ≡ true
names-stay [] n = refl
names-stay (s ∷ rest) n = grind (arith, names-stay rest n)

names-drop : (k : ℕ) (list : List Text) → are_names list ≡ true → are_names (drop k list) ≡ true
names-drop zero list h = h
names-drop (suc k) [] h = refl
names-drop (suc k) (s ∷ list) h = grind (arith, names-drop k list)

names-last : (k n : ℕ) (list : List Text) → are_names (last_ones k (staying_before list n)) ≡ true
names-last k n list = names-drop _ (staying_before list n) (names-stay list n)

-- ---- the `..` that are left

parents-parts : (parents : ℕ) (names : List Text) (closes : Bool) → are_names names ≡ true → count_parents (parts_left parents names closes) ≡ parents
parents-parts parents names closes h = grind (arith, common_steps, parents-names)

pub all_parents : (n : ℕ) (more : List Text) → list_all is_dot_dot (replicate n (codes "..") ++ more) ≡ list_all is_dot_dot more
all_parents zero more = refl
all_parents (suc n) more = all_parents n more

some-parts : (parents : ℕ) (names : List Text) (closes : Bool) → are_names names ≡ true
    → are_some_parents (parts_left parents names closes) ≡ (nat_lt 0 parents && (length names == 0) && not closes)
some-parts zero [] true h = refl
some-parts zero [] false h = refl
some-parts zero (s ∷ names) closes h = grind (arith, nat_tests, name_no_parent s)
some-parts (suc n) [] true h = grind (arith, nat_tests, all_parents n)
some-parts (suc n) [] false h = grind (arith, nat_tests, all_parents n)
some-parts (suc n) (s ∷ names) closes h = grind (arith, nat_tests, all_parents n, name_no_parent s)

module _ (parents k n : ℕ) (list : List Text) (closes : Bool) (few : k ≤ length (staying_before list n)) where
  pub parents-left : count_parents (parts_left parents (last_ones k (staying_before list n)) closes) ≡ parents
  parents-left = parents-parts parents (last_ones k (staying_before list n)) closes (names-last k n list)

  pub some-left : are_some_parents (parts_left parents (last_ones k (staying_before list n)) closes) ≡ (nat_lt 0 parents && (k == 0) && not closes)
  some-left = some-parts parents (last_ones k (staying_before list n)) closes (names-last k n list) ∙ ap (λ m. nat_lt 0 parents && (m == 0) && not closes) (length-last (staying_before list n) k few)

-- ---- the last item

last-snoc : (front : List Text) (s : Text) → last_or_empty (front ++ s ∷ []) ≡ s
last-snoc [] s = refl
last-snoc (t ∷ []) s = refl
last-snoc (t ∷ u ∷ front) s = last-snoc (u ∷ front) s

pub climb-last : (list front : List Text) (s : Text) → list ≡ front ++ s ∷ [] → is_climb list ≡ (is_empty s && are_some_parents front)
climb-last list front s e = grind (arith, all_but_last-snoc front s, last-snoc front s)

pub one_empty-last : (list front : List Text) (s : Text) → list ≡ front ++ s ∷ [] → is_one_empty list ≡ (is_empty s && (length front == 0))
one_empty-last list [] s e = grind (arith, nat_tests)
one_empty-last list (t ∷ front) s e = grind (arith, nat_tests, is_empty-snoc front s)

pub ruleset kept = (kept-read, all_last, unread-sound, append-nil, kept_size, list_size)

pub ruleset counted = (parents-left, some-left)

pub ruleset ends = (climb-last, one_empty-last)
