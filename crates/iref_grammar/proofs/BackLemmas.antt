-- The items of a normal list, read from the back.
use Rattle.std.proofs.Common.{arith, ◌≡◌, ℕ, zero, suc, Bool, true, false, cond, ◌&&◌, List, [], ◌∷◌, ◌++◌, map, reverse, refl, sym, ◌∙◌, ap, append_assoc, ◌==◌, replicate, codes}
use Rattle.std.proofs.lemmas.List.{append-nil, reverse-append, replicate_more}
use Rattle.std.proofs.{lemmas.Grind.{common_steps, reverse_onto}, Math.Bool.{and-false}}
use Rattle.iref_grammar.specs.{Rules.{Text}, Texts.{is_empty}, PathValue.{PathValue, is_one_empty}}
use Rattle.iref_grammar.specs.NormalList.{is_dot_dot, is_name, counted, without_lone_empty, normal_segments}
use Rattle.iref_grammar.specs.NormalReading.{open_before, staying_before, leading_parents, items}
use Rattle.iref_grammar.specs.CountedEquality.{ItemRead, last_read, item_before, items_read, all_items_read}
use Rattle.iref_grammar.proofs.FitsLemmas.{is_empty-append}
use Rattle.iref_grammar.proofs.StayingLemmas.{open_before-append, staying_before-append}
use Rattle.iref_grammar.proofs.ItemLemmas.{ends-last, normal_segments-is}

abbrev pub item_of : ItemRead → Text
item_of e = e.item

reverse-cons : (s : Text) (list : List Text) → reverse (s ∷ list) ≡ reverse list ++ s ∷ []
reverse-cons s list = reverse_onto list s []

reverse-same : (k : ℕ) (s : Text) → reverse (replicate k s) ≡ replicate k s
reverse-same zero s = refl
reverse-same (suc k) s = grind (arith, common_steps, replicate_more, reverse-same k s)

pub items-last : (list : List Text) → map item_of (map last_read list) ≡ list
items-last [] = refl
items-last (s ∷ list) = ap (λ xs. s ∷ xs) (items-last list)

reverse-leading : (absolute : Bool) (k : ℕ) → reverse (leading_parents absolute k) ≡ leading_parents absolute k
reverse-leading true k = refl
reverse-leading false k = reverse-same k (codes "..")

-- the items of segments, last first
pub items_read-is : (absolute : Bool) (behind : ℕ) (back : List Text) → map item_of (items_read absolute behind back) ≡ reverse (leading_parents absolute (open_before (reverse back) behind) ++ staying_before (reverse back) behind)
items_read-is absolute behind [] = grind (arith, common_steps, items-last, reverse-leading)
items_read-is absolute behind (s ∷ before) =
    let n = counted (is_dot_dot s) (is_name s) behind in
    let last = staying_before (s ∷ []) behind in
    let front = leading_parents absolute (open_before (reverse before) n) ++ staying_before (reverse before) n in
    let split : leading_parents absolute (open_before (reverse (s ∷ before)) behind) ++ staying_before (reverse (s ∷ before)) behind ≡ front ++ last =
    (λ i. leading_parents absolute (open_before (reverse-cons s before i) behind) ++ staying_before (reverse-cons s before i) behind)
    ∙ (λ i. leading_parents absolute (open_before-append (reverse before) (s ∷ []) behind i) ++ staying_before-append (reverse before) (s ∷ []) behind i)
    ∙ sym (append_assoc (leading_parents absolute (open_before (reverse before) n)) (staying_before (reverse before) n) last) in
    by (is_name s && (behind == 0)) (items_read absolute n before) front (items_read-is absolute n before) ∙ sym (ap reverse split)
  where
    by : (b : Bool) (later : List ItemRead) (front : List Text) → map item_of later ≡ reverse front → map item_of (item_before b s before later) ≡ reverse (front ++ cond b (s ∷ []) [])
    by true later front h = ap (λ xs. s ∷ xs) h ∙ sym (reverse-append front (s ∷ []))
    by false later front h = h ∙ ap reverse (sym (append-nil front))

-- the items of a path that has segments, last first
all_items_of_some : (absolute : Bool) (s : Text) (before : List Text) → map item_of (all_items_read absolute (s ∷ before)) ≡ reverse (items (record { absolute = absolute; segments = reverse (s ∷ before) }))
all_items_of_some absolute s before = grind (arith, common_steps, reverse-cons, open_before-append, staying_before-append, ends-last, items_read-is)

not_one : (front : List Text) (s t : Text) → is_one_empty (front ++ s ∷ t ∷ []) ≡ false
not_one [] s t = and-false (is_empty s)
not_one (u ∷ front) s t = ap (λ b. is_empty u && b) (is_empty-append front s (t ∷ [])) ∙ and-false (is_empty u)

-- one empty item set aside, on either side of a reversal
pub lone-reverse : (list : List Text) → without_lone_empty (reverse list) ≡ reverse (without_lone_empty list)
lone-reverse [] = refl
lone-reverse (s ∷ []) = grind arith
lone-reverse (s ∷ t ∷ list) = grind (arith, common_steps, not_one)

-- the items of a path, read from the back, are its normal list
pub all_items_read-is : (absolute : Bool) (back : List Text) → without_lone_empty (map item_of (all_items_read absolute back)) ≡ reverse (normal_segments (record { absolute = absolute; segments = reverse back }))
unfolding normal_segments Rattle.iref_grammar.specs.NormalList.excess Rattle.iref_grammar.specs.NormalList.staying_names
all_items_read-is true [] = refl
all_items_read-is false [] = refl
all_items_read-is absolute (s ∷ before) =
    let p : PathValue = record { absolute = absolute; segments = reverse (s ∷ before) } in
    ap without_lone_empty (all_items_of_some absolute s before) ∙ lone-reverse (items p) ∙ ap reverse (sym (normal_segments-is p))
