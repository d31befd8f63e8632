-- The comparison from the back answers whether paths are equal, and what it has read decides a difference.
use Rattle.std.proofs.Common.{◌≡◌, ℕ, ◌+◌, ◌-◌, ◌≤◌, Bool, true, false, List, [], ◌∷◌, ◌++◌, map, reverse, length, drop, refl, sym, ◌∙◌, ap, subst, arith, Decides, take}
use Rattle.std.proofs.lemmas.List.{reverse-append, reverse-reverse, length-append, length-reverse, take-append-drop}
use Rattle.std.proofs.{lemmas.Grind.{common_steps}, Math.Seq.{drop-append_seam}}
use mathlib.Core.Bool.{true≢false, beq}
use Rattle.iref_grammar.specs.{Rules.{Text}, PathValue.{PathValue}}
use Rattle.iref_grammar.specs.{NormalList.{without_lone_empty, normal_segments}, PathKey.{path_key}}
use Rattle.iref_grammar.specs.CountedEquality.{EndsAlike, AreFoundApart, IsCountedAnswer, Comparison, all_items_read, items_compared, paths_compared, segments_read}
use Rattle.iref_grammar.proofs.{BackLemmas.{item_of, all_items_read-is}, LeadingLemmas.{decoded}}
use Rattle.iref_grammar.proofs.ComparisonLemmas.{reads-all_items_read, AreReadApart, read_apart, read_equal, lone_equal, lone_same}

map-reverse : (list : List Text) → decoded (reverse list) ≡ reverse (decoded list)
map-reverse [] = refl
map-reverse (s ∷ list) = grind (arith, common_steps, map-reverse list)

abbrev read_items : Bool → List Text → List Text
read_items absolute back = map item_of (all_items_read absolute back)

-- the items read from the back are the key, last first
key_back : (p : PathValue) → decoded (without_lone_empty (read_items p.absolute (reverse p.segments))) ≡ reverse (decoded (normal_segments p))
key_back p = grind (arith, common_steps, decoded, all_items_read-is, map-reverse)

equal_items : (a b : Bool) (x y : List Text) → decoded (without_lone_empty (read_items a x)) ≡ decoded (without_lone_empty (read_items b y)) → decoded (read_items a x) ≡ decoded (read_items b y)
equal_items a b x y e = grind (arith, lone_same)

abbrev SeenBack : List Text → List Text → List Text → Type 0
SeenBack seen left other = (more : List Text) × (reverse other ≡ seen ++ more) × (left ≡ [] → more ≡ [])

seen_back : (segments seen left other : List Text) → reverse segments ≡ seen ++ left → EndsAlike segments (length seen) other → SeenBack seen left other
seen_back segments seen left other e h =
    let whole : segments ≡ reverse left ++ reverse seen = sym (reverse-reverse segments) ∙ ap reverse e ∙ reverse-append seen left in
    let size : length segments ≡ length seen + length left = sym (length-reverse segments) ∙ ap length e ∙ length-append seen left in
    let cut : length segments - length seen ≡ length (reverse left) = (let r = length-reverse left in omega (arith, size, r)) in
    let back : drop (length segments - length seen) segments ≡ reverse seen = (λ i. drop (cut i) (whole i)) ∙ drop-append_seam (reverse left) (reverse seen) in (
      reverse h.0,
      ap reverse (h.1 ∙ ap (λ xs. h.0 ++ xs) back) ∙ reverse-append h.0 (reverse seen) ∙ ap (λ xs. xs ++ reverse h.0) (reverse-reverse seen),
      λ n. let none : length left ≡ 0 = ap length n in ap reverse (h.2 (omega (arith, size, none))),
    )

found : (p q : PathValue) (left right : List Text) → AreReadApart (read_items p.absolute) (read_items q.absolute) (reverse p.segments) (reverse q.segments) left right → AreFoundApart p q (length p.segments - length left + (length q.segments - length right))
unfolding path_key normal_segments
found p q left right known =
    let p_size : length p.segments ≡ length known.seen_left + length left = sym (length-reverse p.segments) ∙ ap length known.split_left ∙ length-append known.seen_left left in
    let q_size : length q.segments ≡ length known.seen_right + length right = sym (length-reverse q.segments) ∙ ap length known.split_right ∙ length-append known.seen_right right in
    record {
      left = length known.seen_left;
      right = length known.seen_right;
      left_within = omega (arith, p_size);
      right_within = omega (arith, q_size);
      counted = omega (arith, p_size, q_size);
      decided = λ x y a k b l e.
          let u : SeenBack known.seen_left left x.segments = seen_back p.segments known.seen_left left x.segments known.split_left k in
          let v : SeenBack known.seen_right right y.segments = seen_back q.segments known.seen_right right y.segments known.split_right l in
          let keys : decoded (normal_segments x) ≡ decoded (normal_segments y) = (λ i. (e i).segments) in
          let same_items = equal_items x.absolute y.absolute (reverse x.segments) (reverse y.segments) (key_back x ∙ ap reverse keys ∙ sym (key_back y)) in
          known.apart u.0 v.0 u.2 v.2
          ((λ i. decoded (read_items (sym a i) (sym (u.1) i))) ∙ same_items ∙ (λ i. decoded (read_items (b i) (v.1 i))));
    }

-- paths with the same flag
pub compared_same : (p q : PathValue) → p.absolute ≡ q.absolute → (c : Comparison) → c ≡ items_compared (all_items_read p.absolute (reverse p.segments)) (all_items_read q.absolute (reverse q.segments))
    → IsCountedAnswer p q c.equal (length p.segments - length c.left + (length q.segments - length c.right))
unfolding path_key
compared_same p q flags c e = by c.equal refl
  where
    by : (equal : Bool) → c.equal ≡ equal → IsCountedAnswer p q equal (length p.segments - length c.left + (length q.segments - length c.right))
    by true h =
        let known = read_equal (all_items_read p.absolute (reverse p.segments)) (all_items_read q.absolute (reverse q.segments)) (ap (λ d. d.equal) (sym e) ∙ h) in
        let back : reverse (decoded (normal_segments p)) ≡ reverse (decoded (normal_segments q)) =
        sym (key_back p) ∙ lone_equal (read_items p.absolute (reverse p.segments)) (read_items q.absolute (reverse q.segments)) known.same_items ∙ key_back q in
        let keys : decoded (normal_segments p) ≡ decoded (normal_segments q) =
        sym (reverse-reverse (decoded (normal_segments p))) ∙ ap reverse back ∙ reverse-reverse (decoded (normal_segments q)) in
        let left : length c.left ≡ 0 = ap (λ d. length d.left) e ∙ ap length known.left in
        let right : length c.right ≡ 0 = ap (λ d. length d.right) e ∙ ap length known.right in
        (λ i. record { absolute = flags i; segments = keys i }, omega (arith, left, right))
    by false h =
        subst (λ d. AreFoundApart p q (length p.segments - length d.left + (length q.segments - length d.right))) (sym e)
        (found p q _ _
        (read_apart (all_items_read p.absolute (reverse p.segments)) (all_items_read q.absolute (reverse q.segments))
        (read_items p.absolute) (read_items q.absolute) (reverse p.segments) (reverse q.segments)
        (reads-all_items_read p.absolute (reverse p.segments)) (reads-all_items_read q.absolute (reverse q.segments))
        (ap (λ d. d.equal) (sym e) ∙ h)))

-- flags that differ decide by themselves
pub flags_apart : (p q : PathValue) (steps : ℕ) → steps ≡ 0 → beq p.absolute q.absolute ≡ false → AreFoundApart p q steps
unfolding path_key
flags_apart p q steps none e = grind arith

-- the comparison gives the answer that is promised
pub counted_answer : (p q : PathValue) → IsCountedAnswer p q (paths_compared p q).equal (segments_read p q)
unfolding path_key
counted_answer p q = grind (arith, common_steps, compared_same)

ends_alike_itself : (segments : List Text) (count : ℕ) → count ≤ length segments → EndsAlike segments count segments
ends_alike_itself segments count h =
    (take (length segments - count) segments, sym (take-append-drop (length segments - count) segments), λ e. let none : length segments - count ≡ 0 = omega (arith, e) in ap (λ n. take n segments) none)

-- what decides that paths differ shows that these two do
pub found_apart-differ : (p q : PathValue) (steps : ℕ) → AreFoundApart p q steps → ¬ (path_key p ≡ path_key q)
found_apart-differ p q steps found = grind (arith, ends_alike_itself)

-- a counted answer is the equality of keys
pub Decides-counted : (p q : PathValue) (equal : Bool) (steps : ℕ) → IsCountedAnswer p q equal steps → Decides equal (path_key p ≡ path_key q)
Decides-counted p q true steps answer = (λ e. answer.0, λ e. refl)
Decides-counted p q false steps answer = (λ e. absurd (true≢false (sym e)), λ e. absurd (found_apart-differ p q steps answer e))

pub Decides-paths_compared : (p q : PathValue) → Decides (paths_compared p q).equal (path_key p ≡ path_key q)
Decides-paths_compared p q = Decides-counted p q (paths_compared p q).equal (segments_read p q) (counted_answer p q)

pub ruleset decided = (Decides-counted)
