-- A normal list is its own normal list.
use Rattle.std.proofs.Common.{◌≡◌, ℕ, Bool, true, false, not, cond, List, [], ◌∷◌, ◌++◌, refl, sym, ◌∙◌, ap, arith, true≢false}
use Rattle.std.proofs.lemmas.Grind.{common_steps}
use Rattle.iref_grammar.specs.{Rules.{Text}, Texts.{is_empty}, PathValue.{PathValue}}
use Rattle.iref_grammar.specs.NormalList.{is_name, staying_names, ends_in_dots, closed, without_lone_empty, kept_segments, normal_segments, normal, open_parents}
use Rattle.iref_grammar.proofs.NormalLemmas.{excess-is}
use Rattle.iref_grammar.proofs.JoinedLemmas.{open-append, staying-append, are_names, all_first, open-names, staying-names, are_names-staying, climbs, open-climbs, staying-climbs}

-- ---- the last segment

pub ends-append : (front : List Text) (s : Text) (rest : List Text) → ends_in_dots (front ++ s ∷ rest) ≡ ends_in_dots (s ∷ rest)
ends-append [] s rest = refl
ends-append (f ∷ []) s rest = refl
ends-append (f ∷ g ∷ front) s rest = ends-append (g ∷ front) s rest

pub ends-names : (list : List Text) → are_names list ≡ true → ends_in_dots list ≡ false
ends-names [] h = refl
ends-names (s ∷ []) h = ap not (all_first is_name s [] h).0
ends-names (s ∷ t ∷ rest) h = ends-names (t ∷ rest) (all_first is_name s (t ∷ rest) h).1

-- a last name stays
pub last_stays : (s : Text) (rest : List Text) → ends_in_dots (s ∷ rest) ≡ false → is_empty (staying_names (s ∷ rest)) ≡ false
unfolding staying_names
last_stays s [] h = grind arith
last_stays s (t ∷ rest) h = grind (arith, last_stays t rest)

-- ---- lists of `..` and names after them

-- some `..` and the names after them; where there is no name, there is nothing
pub record IsSettled (absolute : Bool) (list : List Text) : Type 0 where
  pub climb : ℕ
  pub names : List Text
  pub are_names : are_names names ≡ true
  pub divided : list ≡ climbs climb ++ names
  pub rooted : absolute ≡ true → climb ≡ 0
  pub ends : is_empty names ≡ true → climb ≡ 0

pub staying-settled : (n : ℕ) (names : List Text) → are_names names ≡ true → staying_names (climbs n ++ names) ≡ names
staying-settled n names h = grind (arith, common_steps, staying-append, climbs, staying-climbs, staying-names)

pub open-settled : (n : ℕ) (names : List Text) → are_names names ≡ true → open_parents (climbs n ++ names) ≡ n
open-settled n names h = grind (arith, common_steps, open-append, open-climbs, open-names)

ends-settled : (n : ℕ) (names : List Text) → are_names names ≡ true → (is_empty names ≡ true → n ≡ 0) → ends_in_dots (climbs n ++ names) ≡ false
ends-settled n [] h ends = λ i. ends_in_dots (climbs (ends refl i) ++ [])
ends-settled n (s ∷ names) h ends = ends-append (climbs n) s names ∙ ends-names (s ∷ names) h

pub kept_at : (absolute : Bool) (segments : List Text) (n : ℕ) (names : List Text) → let p : PathValue = record { absolute = absolute; segments = segments } in
    (absolute ≡ false → open_parents segments ≡ n) → (absolute ≡ true → 0 ≡ n) → staying_names segments ≡ names → kept_segments p ≡ climbs n ++ names
kept_at absolute segments n names relative rooted stay = grind (arith, excess-is)

pub normal_from : (p : PathValue) (ends : Bool) (list : List Text) → ends_in_dots p.segments ≡ ends → kept_segments p ≡ list → normal_segments p ≡ without_lone_empty (cond ends (closed list) list)
unfolding normal_segments
normal_from p ends list e k = λ i. without_lone_empty (cond (e i) (closed (k i)) (k i))

settled-normal : (absolute : Bool) (n : ℕ) (names : List Text) → are_names names ≡ true → (absolute ≡ true → n ≡ 0) → (is_empty names ≡ true → n ≡ 0) → let p : PathValue = record { absolute = absolute; segments = climbs n ++ names } in normal_segments p ≡ without_lone_empty (climbs n ++ names)
settled-normal absolute n names h rooted ends = grind (arith, common_steps, normal_from, climbs, ends-settled, kept_at, open-settled, staying-settled)

-- how many `..` the path keeps
abbrev pub leading : Bool → List Text → ℕ
leading absolute segments = cond absolute 0 (open_parents segments)

pub kept-is : (absolute : Bool) (segments : List Text) → let p : PathValue = record { absolute = absolute; segments = segments } in kept_segments p ≡ climbs (leading absolute segments) ++ staying_names segments
kept-is true segments = refl
kept-is false segments = λ i. climbs (excess-is segments i) ++ staying_names segments

leading_rooted : (absolute : Bool) (segments : List Text) → absolute ≡ true → leading absolute segments ≡ 0
leading_rooted absolute segments e = grind arith

settled_kept : (absolute : Bool) (segments : List Text) → ends_in_dots segments ≡ false → IsSettled absolute (climbs (leading absolute segments) ++ staying_names segments)
settled_kept absolute segments e =
    record {
      climb = leading absolute segments;
      names = staying_names segments;
      are_names = are_names-staying segments;
      divided = refl;
      rooted = leading_rooted absolute segments;
      ends = by absolute segments e;
    }
  where
    by : (absolute : Bool) (segments : List Text) → ends_in_dots segments ≡ false → is_empty (staying_names segments) ≡ true → leading absolute segments ≡ 0
    by true segments e h = refl
    by false [] e h = refl
    by false (s ∷ rest) e h = absurd (true≢false (sym h ∙ last_stays s rest e))

pub settled_before_lone : (absolute : Bool) (segments : List Text) (ends : Bool) → ends_in_dots segments ≡ ends → let list = climbs (leading absolute segments) ++ staying_names segments in IsSettled absolute (cond ends (closed list) list)
settled_before_lone absolute segments true e = grind (arith, common_steps, are_names-staying)
settled_before_lone absolute segments false e = settled_kept absolute segments e

abbrev pub before_lone : Bool → List Text → List Text
before_lone absolute segments =
    let list = climbs (leading absolute segments) ++ staying_names segments in
    cond (ends_in_dots segments) (closed list) list

pub normal-is : (absolute : Bool) (segments : List Text) → let p : PathValue = record { absolute = absolute; segments = segments } in normal_segments p ≡ without_lone_empty (before_lone absolute segments)
normal-is absolute segments = grind (arith, common_steps, normal_from, kept-is)

pub without_lone-again : (list : List Text) → without_lone_empty (without_lone_empty list) ≡ without_lone_empty list
without_lone-again list = grind arith

normal_of_settled : (absolute : Bool) (list : List Text) → IsSettled absolute list → let p : PathValue = record { absolute = absolute; segments = list } in normal_segments p ≡ without_lone_empty list
normal_of_settled absolute list s = grind (arith, settled-normal)

pub normal_settled : (absolute : Bool) (segments : List Text) → let p : PathValue = record { absolute = absolute; segments = segments } in IsSettled absolute (without_lone_empty (before_lone absolute segments))
normal_settled absolute segments = grind (arith, settled_before_lone)

-- a normal list is its own normal list
again : (absolute : Bool) (segments : List Text) → let p : PathValue = record { absolute = absolute; segments = segments } in normal_segments (normal p) ≡ normal_segments p
again absolute segments = grind (arith, common_steps, normal-is, normal_of_settled, normal_settled, without_lone-again)

pub normal_again : (p : PathValue) → normal (normal p) ≡ normal p
normal_again p = λ i. record { absolute = p.absolute; segments = again p.absolute p.segments i }

names_of_settled : (list : List Text) → IsSettled true list → are_names list ≡ true
names_of_settled list s = ap are_names (s.divided ∙ (λ i. climbs (s.rooted refl i) ++ s.names)) ∙ s.are_names

-- from the root, a normal list has names alone
pub names-normal : (segments : List Text) → let p : PathValue = record { absolute = true; segments = segments } in are_names (normal_segments p) ≡ true
names-normal segments = ap are_names (normal-is true segments) ∙ names_of_settled (without_lone_empty (before_lone true segments)) (normal_settled true segments)

-- and is not one empty segment
pub lone-normal : (p : PathValue) → without_lone_empty (normal_segments p) ≡ normal_segments p
unfolding normal_segments
lone-normal p = without_lone-again (cond (ends_in_dots p.segments) (closed (kept_segments p)) (kept_segments p))
