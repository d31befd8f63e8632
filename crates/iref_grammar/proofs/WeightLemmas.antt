-- How long the text of a list of segments is.
use Rattle.std.proofs.Common.{◌≡◌, ℕ, zero, suc, ◌+◌, ◌-◌, ◌*◌, ◌≤◌, Bool, true, false, not, cond, ◌&&◌, List, [], ◌∷◌, ◌++◌, length, drop, refl, sym, ◌∙◌, ap, arith, codes, length-append, ◌⊎◌, inl, inr, ◌==◌, true≢false}
use Rattle.std.proofs.{lemmas.Grind.{common_steps}, lemmas.Bool.{and_parts}, lemmas.Bool.Decides.{nat_tests}}
use Rattle.std.proofs.lemmas.List.Folds.{list_all-append}
use Rattle.std.specs.{List.{join_with_byte}, Cmp.Lexicographic.{bytes_decides}}
use Rattle.iref_grammar.specs.{Rules.{Text}, Grammar.{slash}, Texts.{is_empty}, PathValue.{PathValue, spell_path}}
use Rattle.iref_grammar.specs.NormalList.{is_name, is_dot, is_dot_dot, staying_names, stays_before, ends_in_dots, open_parents, counted}
use Rattle.iref_grammar.proofs.JoinedLemmas.{staying-cons, climbs, are_names, are_names-staying}
use Rattle.iref_grammar.proofs.{SettledLemmas.{last_stays}, FitsLemmas.{is_empty-snoc}, WalkLemmas.{ended, nothing-in}}

-- a path by its flag and its list
abbrev pub path : Bool → List Text → PathValue
path absolute list = record { absolute = absolute; segments = list }

-- the bytes of the segments, and one for each
abbrev pub weight : List Text → ℕ
weight [] = 0
weight (s ∷ rest) = length s + 1 + weight rest

pub weight-append : (front back : List Text) → weight (front ++ back) ≡ weight front + weight back
weight-append [] back = omega arith
weight-append (s ∷ front) back = let rest = weight-append front back in omega arith

pub weight-climbs : (n : ℕ) → weight (climbs n) ≡ 3 * n
weight-climbs zero = refl
weight-climbs (suc n) = let rest = weight-climbs n in omega arith

-- each segment dropped was one byte or more
pub weight-drop : (n : ℕ) (list : List Text) → n ≤ length list → weight (drop n list) + n ≤ weight list
weight-drop zero list h = omega arith
weight-drop (suc n) [] h = absurd (omega arith)
weight-drop (suc n) (s ∷ list) h = let rest = weight-drop n list (omega arith) in omega arith

-- ---- the text of a path

length-join : (s : Text) (rest : List Text) → length (join_with_byte slash (s ∷ rest)) + 1 ≡ weight (s ∷ rest)
length-join s [] = omega arith
length-join s (t ∷ rest) = let later = length-join t rest in let joined = length-append s (slash ∷ join_with_byte slash (t ∷ rest)) in omega arith

length-segments : (list : List Text) → length (join_with_byte slash list) ≡ weight list - 1
length-segments [] = refl
length-segments (s ∷ rest) = let all = length-join s rest in omega arith

pub length-path : (absolute : Bool) (list : List Text) → length (spell_path (path absolute list)) ≡ cond absolute 1 0 + (weight list - 1)
unfolding spell_path
length-path true list = let all = length-segments list in omega arith
length-path false list = let all = length-segments list in omega arith

-- of paths with one flag, the one with the lighter list is not longer
pub lighter-path : (absolute : Bool) (one other : List Text) → weight one ≤ weight other
    → length (spell_path (path absolute one)) ≤ length (spell_path (path absolute other))
lighter-path absolute one other h = let a = length-path absolute one in let b = length-path absolute other in omega arith

-- ---- what a walk weighs at least

parent_size : (s : Text) → is_dot_dot s ≡ true → 2 ≤ length s
parent_size s h = let is = ap length ((bytes_decides s (codes "..")).0 h) in omega (arith, is)

-- one more segment before a walk with n open `..`: it is `..`, or `.`, or a name that stays or is taken
heavier_by : (parent dot : Bool) (n size rest names : ℕ) → (parent ≡ true → 2 ≤ size) → names + 3 * n ≤ rest
    → cond ((not dot && not parent) && (n == 0)) (size + 1 + names) names + 3 * counted parent (not dot && not parent) n ≤ size + 1 + rest
heavier_by parent dot n size rest names p h = grind (arith, nat_tests)

heavier : (s : Text) (rest : List Text) (size : ℕ) → weight (staying_names rest) + 3 * open_parents rest ≤ size → weight (staying_names (s ∷ rest)) + 3 * open_parents (s ∷ rest) ≤ length s + 1 + size
heavier s rest size h = grind (arith, common_steps, staying-cons, heavier_by, parent_size)

-- three bytes for each `..` that it leaves open, besides the names that stay
pub walk_weighs : (walk : List Text) → weight (staying_names walk) + 3 * open_parents walk ≤ weight walk
unfolding staying_names
walk_weighs [] = omega arith
walk_weighs (s ∷ rest) = heavier s rest (weight rest) (walk_weighs rest)

-- `.` or `..` at the end weighs two or more
dots_weigh : (walk : List Text) → ends_in_dots walk ≡ true → 2 ≤ weight walk
dots_weigh [] h = absurd (true≢false (sym h))
dots_weigh ([] ∷ []) h = absurd (true≢false (sym h))
dots_weigh ((c ∷ s) ∷ []) h = omega arith
dots_weigh (s ∷ t ∷ rest) h = let later = dots_weigh (t ∷ rest) h in omega arith

-- the only name that stays stands first
first_stays : (parent dot : Bool) (n size : ℕ) (s : Text) (list : List Text) → is_empty (cond ((not dot && not parent) && (n == 0)) (s ∷ list) list) ≡ false → is_empty list ≡ true → 2 ≤ size
    → weight (cond ((not dot && not parent) && (n == 0)) (s ∷ list) list) + 3 * counted parent (not dot && not parent) n + 2 ≤ length s + 1 + size
first_stays parent dot n size s list some none h = let nothing = ap weight (nothing-in list none) in grind (arith, nat_tests)

only_first : (s : Text) (rest : List Text) → is_empty (staying_names (s ∷ rest)) ≡ false → is_empty (staying_names rest) ≡ true → 2 ≤ weight rest
    → weight (staying_names (s ∷ rest)) + 3 * open_parents (s ∷ rest) + 2 ≤ length s + 1 + weight rest
only_first s rest some none h =
    rw (staying-cons s rest) (first_stays (is_dot_dot s) (is_dot s) (open_parents rest) (weight rest) s (staying_names rest) (ap is_empty (sym (staying-cons s rest)) ∙ some) none h)

-- where names stay, `.` or `..` at the end comes on top of them, for it is not open
pub ended_walk_weighs : (walk : List Text) → ends_in_dots walk ≡ true → is_empty (staying_names walk) ≡ false → weight (staying_names walk) + 3 * open_parents walk + 2 ≤ weight walk
unfolding staying_names
ended_walk_weighs [] ends some = absurd (true≢false (sym ends))
ended_walk_weighs (s ∷ []) ends some = grind arith
ended_walk_weighs (s ∷ t ∷ rest) ends some = by (is_empty (staying_names (t ∷ rest))) refl (ended_walk_weighs (t ∷ rest) ends)
  where
    by : (none : Bool) → is_empty (staying_names (t ∷ rest)) ≡ none → (is_empty (staying_names (t ∷ rest)) ≡ false → weight (staying_names (t ∷ rest)) + 3 * open_parents (t ∷ rest) + 2 ≤ weight (t ∷ rest))
        → weight (staying_names (s ∷ t ∷ rest)) + 3 * open_parents (s ∷ t ∷ rest) + 2 ≤ weight (s ∷ t ∷ rest)
    by false e weighs = (let later = weighs e in let all = heavier s (t ∷ rest) (weight (t ∷ rest) - 2) (omega arith) in omega arith)
    by true e weighs = only_first s (t ∷ rest) some e (dots_weigh (t ∷ rest) ends)

-- ---- the segments that a walk adds

-- a walk that adds nothing but the end of a directory
abbrev pub adds_nothing : List Text → Bool
adds_nothing walk = ends_in_dots walk && is_empty (staying_names walk)

pub nothing-added : (walk : List Text) → adds_nothing walk ≡ true → ended walk ≡ [] ∷ []
nothing-added walk h =
    let both = and_parts (ends_in_dots walk) (is_empty (staying_names walk)) h in
    λ i. cond (both.0 i) (nothing-in (staying_names walk) both.1 i ++ [] ∷ []) (staying_names walk)

pub added_weighs : (walk : List Text) → adds_nothing walk ≡ false → weight (ended walk) + 3 * open_parents walk ≤ weight walk
added_weighs walk h = grind (arith, common_steps, weight-append, walk_weighs, ended_walk_weighs)

taken_first : (s : Text) (rest : List Text) → ends_in_dots (s ∷ rest) ≡ true → is_empty (staying_names rest) ≡ false → weight (staying_names rest ++ [] ∷ []) ≤ weight rest
unfolding staying_names
taken_first s [] ends some = absurd (true≢false some)
taken_first s (t ∷ rest) ends some = let weighs = ended_walk_weighs (t ∷ rest) ends some in let joined = weight-append (staying_names (t ∷ rest)) ([] ∷ []) in omega arith

some_added : (s : Text) (rest : List Text) → ends_in_dots (s ∷ rest) ≡ true → (is_name s && stays_before rest) ≡ false → adds_nothing (s ∷ rest) ≡ false → is_empty (staying_names rest) ≡ false
unfolding staying_names
some_added s rest ends taken h = sym (λ i. ends i && is_empty (cond (taken i) (s ∷ staying_names rest) (staying_names rest))) ∙ h

first_added_at : (s : Text) (rest : List Text) (ends stays : Bool) → ends_in_dots (s ∷ rest) ≡ ends → (is_name s && stays_before rest) ≡ stays → adds_nothing (s ∷ rest) ≡ false
    → ((more : List Text) × (cond ends (cond stays (s ∷ staying_names rest) (staying_names rest) ++ [] ∷ []) (cond stays (s ∷ staying_names rest) (staying_names rest)) ≡ s ∷ more))
    ⊎ (weight (cond ends (cond stays (s ∷ staying_names rest) (staying_names rest) ++ [] ∷ []) (cond stays (s ∷ staying_names rest) (staying_names rest))) + (length s + 1) ≤ weight (s ∷ rest))
first_added_at s rest true true e f h = inl (staying_names rest ++ [] ∷ [], refl)
first_added_at s rest false true e f h = inl (staying_names rest, refl)
first_added_at s rest true false e f h = inr (let weighs = taken_first s rest e (some_added s rest e f h) in omega arith)
first_added_at s rest false false e f h = inr (let weighs = walk_weighs rest in omega arith)

-- the first segment of the walk is the first that it adds, or comes on top
pub first_added : (s : Text) (rest : List Text) → adds_nothing (s ∷ rest) ≡ false
    → ((more : List Text) × (ended (s ∷ rest) ≡ s ∷ more)) ⊎ (weight (ended (s ∷ rest)) + (length s + 1) ≤ weight (s ∷ rest))
unfolding staying_names
first_added s rest h = first_added_at s rest (ends_in_dots (s ∷ rest)) (is_name s && stays_before rest) refl refl h

pub added_some : (walk : List Text) → is_empty walk ≡ false → is_empty (ended walk) ≡ false
added_some [] h = absurd (true≢false h)
added_some (s ∷ rest) h = by (ends_in_dots (s ∷ rest)) refl
  where
    by : (ends : Bool) → ends_in_dots (s ∷ rest) ≡ ends → is_empty (cond ends (staying_names (s ∷ rest) ++ [] ∷ []) (staying_names (s ∷ rest))) ≡ false
    by true e = is_empty-snoc (staying_names (s ∷ rest)) []
    by false e = last_stays s rest e

pub added_names : (walk : List Text) → are_names (ended walk) ≡ true
added_names walk = grind (arith, common_steps, are_names-staying, list_all-append)
