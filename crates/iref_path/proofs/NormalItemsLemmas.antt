-- What is left of a normal list that is read from either end.
use Rattle.std.proofs.Common.{ap, append_assoc, drop, take, subst, inl, inr, min, nat_lt, ◌≡◌, ℕ, zero, suc, ◌+◌, ◌-◌, ◌<◌, ◌≤◌, ◌^◌, Bool, true, false, cond, ◌&&◌, List, [], ◌∷◌, ◌++◌, length, length-append, Option, None, refl, sym, ◌∙◌, arith, ◌==◌, replicate, codes}
use Rattle.std.proofs.{lemmas.Bool.Decides.{nat_tests}, lemmas.Grind.{common_steps}}
use Rattle.std.proofs.{Math.Seq.{drop-append-add, drop-append_seam, drop-length}, lemmas.Bool.{cases_lt}}
use Rattle.std.proofs.lemmas.List.{take-append-drop, drop-append-le, drop-drop, drop-replicate, length-drop, length-replicate, replicate-append-replicate, append-nil}
use Rattle.std.proofs.lemmas.List.Folds.{list_any-append}
use Rattle.std.specs.{List.{list_any}, Borrow.{Bor}}
use Rattle.iref_path.proofs.NamedLemmas.{none_open}
use Rattle.iref_grammar.specs.{Rules.{Text}, Texts.{is_empty}, PathValue.{PathValue, is_one_empty}}
use Rattle.iref_grammar.specs.NormalList.{is_dot_dot, is_name, ends_in_dots, without_lone_empty, normal_segments}
use Rattle.iref_grammar.specs.NormalReading.{open_before, staying_before, closing}
use Rattle.iref_grammar.proofs.ItemLemmas.{normal_segments-is, ends-last}
use Rattle.iref_grammar.proofs.StayingLemmas.{open_before-append, staying_before-append}
use Rattle.iref_path.specs.MergedPaths.{both_names, merged_list}
use Rattle.iref_path.specs.NormalItems.{first_or, IsEnd, IsPlain, IsSound, IsWhole, normal_left, unread_items}
use Rattle.iref_path.specs.{declared.normal_items.NormalItems.{NormalItems}, Pieces.{pieces_if_some}}
use Rattle.iref_path.specs.StepsBetween.{last_ones}

-- ---- the three parts

abbrev pub parts_left : ℕ → List Text → Bool → List Text
parts_left parents names closes = replicate parents (codes "..") ++ (names ++ closing closes)

-- ---- the end of a list

end_less : (list end : List Text) (s : Text) → IsEnd (s ∷ end) list → IsEnd end list
end_less list end s h =
    let within : length end + 1 ≤ length list = omega (arith, h.within) in
    let size : length (s ∷ end) ≡ length end + 1 = omega arith in
    let at : length list - (length end + 1) + 1 ≡ length list - length end = omega arith in
    record {
      within = omega arith;
      last = ap (drop 1) (h.last ∙ ap (λ n. drop (length list - n) list) size) ∙ drop-drop 1 (length list - (length end + 1)) list ∙ ap (λ n. drop n list) at;
    }

pub whole_end : (list : List Text) → IsEnd list list
whole_end list = record { within = omega arith; last = grind arith }

-- What a scan of a list from the front has found: what follows the last `..`, if none is left, and how many names before those
-- that are left.
pub record IsScanned (list left end : List Text) (names : ℕ) : Type 0 where
  pub end_is : IsEnd end list
  pub left_is : IsEnd left list
  pub settled : list_any is_dot_dot left ≡ false → list_any is_dot_dot end ≡ false
  pub names_are : list_any is_dot_dot left ≡ false → names + length (staying_before left 0) ≡ length (staying_before end 0)

pub nothing_scanned : (list : List Text) → IsScanned list list list 0
nothing_scanned list = record { end_is = whole_end list; left_is = whole_end list; settled = λ h. h; names_are = λ h. omega arith }

module _ (list left rest end : List Text) (s : Text) (names : ℕ) (e : left ≡ s ∷ rest) (scanned : IsScanned list left end names) where
  here : IsScanned list (s ∷ rest) end names
  here = subst (λ (l : List Text). IsScanned list l end names) e scanned

  pub name_scanned : is_name s ≡ true → IsScanned list rest end (names + 1)
  name_scanned named = let h = here in record {
    end_is = h.end_is;
    left_is = end_less list rest s h.left_is;
    settled = λ k. h.settled (grind arith);
    names_are = λ k. let none = none_open rest k in let before = h.names_are (grind arith) in grind arith;
  }

  pub parent_scanned : IsScanned list rest rest 0
  parent_scanned =
      let behind = end_less list rest s here.left_is in
      record { end_is = behind; left_is = behind; settled = λ k. k; names_are = λ k. omega arith }

  pub dot_scanned : is_name s ≡ false → is_dot_dot s ≡ false → IsScanned list rest end names
  dot_scanned unnamed dot = let h = here in record {
    end_is = h.end_is;
    left_is = end_less list rest s h.left_is;
    settled = λ k. h.settled (grind arith);
    names_are = λ k. let before = h.names_are (grind arith) in grind arith;
  }

-- where no `..` is open before the end, its names are the last ones
pub names_of_end : (list end : List Text) → IsEnd end list → open_before end 0 ≡ 0 → (front : List Text) × (staying_before list 0 ≡ front ++ staying_before end 0)
names_of_end list end h e =
    let front = take (length list - length end) list in
    let whole : list ≡ front ++ end = sym (take-append-drop (length list - length end) list) ∙ ap (λ z. front ++ z) (sym h.last) in
    (staying_before front 0, ap (λ l. staying_before l 0) whole ∙ staying_before-append front end 0 ∙ ap (λ n. staying_before front n ++ staying_before end 0) e)

-- ---- the last of the names

pub all_last : (names : List Text) → last_ones (length names) names ≡ names
all_last names = grind arith

pub length-last : (names : List Text) (k : ℕ) → k ≤ length names → length (last_ones k names) ≡ k
length-last names k h = grind (arith, length-drop)

-- of two lists that are joined
last-joined : (xs ys : List Text) (n : ℕ) → last_ones n (xs ++ ys) ≡ last_ones (n - length ys) xs ++ last_ones n ys
last-joined xs ys n = elim (cases_lt (length ys) n) [
  | inl more ↦ grind (arith, length-append, drop-append-le (length xs + length ys - n) xs ys (omega (arith, more)))
  | inr less ↦ grind (arith, length-append, drop-append-add xs ys (length ys - n), drop-length xs)
]

-- of those that are the last already
last-again : (names : List Text) (k n : ℕ) → k ≤ length names → last_ones n (last_ones k names) ≡ last_ones (min n k) names
last-again names k n h = grind (arith, length-last names k h, drop-drop (k - n) (length names - k) names)

last-parents : (parents n : ℕ) → n ≤ parents → last_ones n (replicate parents (codes "..")) ≡ replicate n (codes "..")
last-parents parents n h = grind (arith, length-replicate, drop-replicate)

last-closing : (closes stays : Bool) (count : ℕ) → stays ≡ (closes && nat_lt 0 count) → (last_ones count (closing closes) ≡ closing stays) × (count - length (closing closes) ≡ count - cond stays 1 0)
last-closing closes stays count e = grind (arith, common_steps)

-- `..` stand before the last of two lists
three-joined : (up j : ℕ) (list parents others names ends : List Text) → list ≡ parents ++ others → parents ≡ replicate j (codes "..") → others ≡ names ++ ends
    → replicate (up + j) (codes "..") ++ (names ++ ends) ≡ replicate up (codes "..") ++ list
three-joined up j list parents others names ends e f g = grind (arith, replicate-append-replicate up j (codes ".."), append_assoc)

-- the last of the three parts, behind others
pub last-parts : (up parents k count m : ℕ) (names : List Text) (closes stays : Bool) → k ≤ length names → count ≤ parents + k + cond closes 1 0
    → stays ≡ (closes && nat_lt 0 count) → m ≡ min (count - cond stays 1 0) k
    → replicate (up + (count - cond stays 1 0 - m)) (codes "..") ++ (last_ones m names ++ closing stays)
    ≡ replicate up (codes "..") ++ last_ones count (parts_left parents (last_ones k names) closes)
last-parts up parents k count m names closes stays few within e f =
    let behind = last_ones k names ++ closing closes in
    let closed = last-closing closes stays count e in
    let size : length behind ≡ k + length (closing closes) = length-append (last_ones k names) (closing closes) ∙ ap (λ n. n + length (closing closes)) (length-last names k few) in
    let first : count - length behind ≡ count - cond stays 1 0 - m = omega (arith, size, closed.1, f) in
    let some : last_ones (count - length (closing closes)) (last_ones k names) ≡ last_ones m names =
    ap (λ n. last_ones n (last_ones k names)) closed.1 ∙ last-again names k (count - cond stays 1 0) few ∙ ap (λ n. last_ones n names) (sym f) in
    let few_parents : count - cond stays 1 0 - m ≤ parents = grind arith in
    three-joined up (count - cond stays 1 0 - m) _ _ _ (last_ones m names) (closing stays) (last-joined (replicate parents (codes "..")) behind count)
    (ap (λ n. last_ones n (replicate parents (codes ".."))) first ∙ last-parents parents (count - cond stays 1 0 - m) few_parents)
    (last-joined (last_ones k names) (closing closes) count ∙ ap (λ n. n ++ last_ones count (closing closes)) some ∙ ap (λ z. last_ones m names ++ z) closed.0)

-- ---- the whole list

-- when all are one empty segment
pub one_empty : (parents : ℕ) (names : List Text) (closes : Bool) → ((parents == 0) && (is_empty (first_or [] names) && (length names + cond closes 1 0 == 1))) ≡ is_one_empty (parts_left parents names closes)
one_empty zero [] closes = grind (arith, common_steps)
one_empty zero ([] ∷ names) closes = grind (arith, common_steps)
one_empty zero ((c ∷ s) ∷ names) closes = grind (arith, common_steps)
one_empty (suc n) names closes = grind (arith, nat_tests)

pub length-parts : (parents : ℕ) (names : List Text) (closes : Bool) → length (parts_left parents names closes) ≡ parents + length names + cond closes 1 0
length-parts parents names closes = grind (arith, common_steps)

-- the parts that are left of a path of which nothing has been given
pub parts-whole : (p : PathValue) (parents : ℕ) (names : List Text) (closes : Bool) → parents ≡ cond p.absolute 0 (open_before p.segments 0) → names ≡ staying_before p.segments 0 → closes ≡ ends_in_dots p.segments
    → without_lone_empty (parts_left parents names closes) ≡ normal_segments p
parts-whole p parents names closes h k l = grind (arith, common_steps, normal_segments-is)

-- items of which none has been given
pub unread-sound : (parents names : ℕ) (front back : Option (Bor Text)) (closes : Bool) → length (merged_list front back) < 2 ^ 64 → names ≤ length (both_names front back)
    → parents + names + cond closes 1 0 < 2 ^ 64 → IsSound (unread_items parents names front back closes)
unread-sound parents names front back closes h most items = record { readable = omega (arith, h); names = most; items = items }

-- the last items are these names and the closing segment
module _ (parents : ℕ) (names front end : List Text) (closes : Bool) (h : names ≡ front ++ end) where
  joined : parts_left parents names closes ≡ (replicate parents (codes "..") ++ front) ++ (end ++ closing closes)
  joined = ap (λ z. parts_left parents z closes) h ∙ grind (arith, append_assoc)

  settled_within : length (end ++ closing closes) ≤ length (parts_left parents names closes)
  settled_within = rw joined (omega (arith, length-append (replicate parents (codes "..") ++ front) (end ++ closing closes)))

  settled_last : end ++ closing closes ≡ last_ones (length (end ++ closing closes)) (parts_left parents names closes)
  settled_last =
      let others = replicate parents (codes "..") ++ front in
      let size = length-append others (end ++ closing closes) in
      let at : length (others ++ (end ++ closing closes)) - length (end ++ closing closes) ≡ length others = omega (arith, size) in
      rw (joined, at) (sym (drop-append_seam others (end ++ closing closes)))

-- what follows the last `..` of a list
module _ (n : NormalItems) (whole : IsWhole n) (end : Option (Bor Text)) (names : ℕ) (behind : IsEnd (pieces_if_some end) (pieces_if_some n.back))
    (settled : list_any is_dot_dot (pieces_if_some end) ≡ false) (count : names ≡ length (staying_before (pieces_if_some end) 0)) where
  found : (front : List Text) × (staying_before (pieces_if_some n.back) 0 ≡ front ++ staying_before (pieces_if_some end) 0)
  found = names_of_end (pieces_if_some n.back) (pieces_if_some end) behind (none_open (pieces_if_some end) settled)

  all : normal_left n ≡ parts_left n.parents (staying_before (pieces_if_some n.back) 0) n.closes
  unfolding normal_left
  all = let sound = whole in grind (arith, all_last)

  last : normal_left (unread_items 0 names None end n.closes) ≡ staying_before (pieces_if_some end) 0 ++ closing n.closes
  unfolding normal_left
  last = grind (arith, all_last)

  pub end_last : normal_left (unread_items 0 names None end n.closes) ≡ last_ones (length (normal_left (unread_items 0 names None end n.closes))) (normal_left n)
  end_last = rw (last, all) (settled_last n.parents (staying_before (pieces_if_some n.back) 0) found.0 (staying_before (pieces_if_some end) 0) n.closes found.1)

  pub end_within : length (normal_left (unread_items 0 names None end n.closes)) ≤ length (normal_left n)
  end_within = rw (last, all) (settled_within n.parents (staying_before (pieces_if_some n.back) 0) found.0 (staying_before (pieces_if_some end) 0) n.closes found.1)

  pub end_plain : IsPlain (unread_items 0 names None end n.closes)
  end_plain =
      let all_names : n.names_left ≡ length (staying_before (pieces_if_some n.back) 0) = whole.names ∙ ap (λ k. length (staying_before (pieces_if_some n.back) k)) whole.closed in
      let fewer : names ≤ n.names_left = omega (arith, ap length found.1, length-append found.0 (staying_before (pieces_if_some end) 0)) in
      let countable : length (pieces_if_some end) < 2 ^ 64 =
      omega (arith, behind.within, whole.sound.readable, length-append (pieces_if_some n.front) (pieces_if_some n.back)) in
      let sound = unread-sound 0 names None end n.closes countable (omega arith) (omega (arith, whole.sound.items)) in
      record { sound = sound; settled = record { behind = refl; closed = refl; no_parents = settled }; names = count }

pub ruleset staying = (open_before-append, staying_before-append, append-nil, list_any-append)

pub ruleset closed_at_end = (ends-last)

pub ruleset scanned = (nothing_scanned, name_scanned, parent_scanned, dot_scanned)
