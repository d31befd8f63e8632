-- A tree with one node more.
use Rattle.std.proofs.Common.{arith, ◌≡◌, ◌≢◌, ℕ, ◌+◌, ◌-◌, ◌*◌, ◌<◌, ◌≤◌, ◌⊎◌, inl, inr, Bool, true, false, List, [], ◌∷◌, ◌++◌, length, get_or, refl, sym, ap, subst, ◌∙◌, ⊎_elim}
use Rattle.std.proofs.lemmas.Bool.{cases_eq, cases_order}
use Rattle.std.proofs.lemmas.List.{length_push}
use Rattle.std.specs.Prelude.{Option, Some, None, MatchOption, IfSome}
use Rattle.iref_grammar.specs.Rules.{Text}
use Rattle.iref.specs.{declared.compact.tree.Bit.{Bit}, declared.compact.tree.Child.{Child}}
use Rattle.iref.specs.declared.compact.tree.Child.TheVariants.{Inner, Leaf}
use Rattle.iref.specs.{declared.compact.tree.Node.{Node}, declared.compact.tree.Tree.{Tree}}
use Rattle.iref.specs.PrefixTree.{text_at, bit, place_of, child, child_at, node_at, number_of, spot, Spot, SameBits, AreBytes, IsFirst, IsFront, IsIn, IsOnSide, IsBelow, IsLink, IsNode, IsTree, IsNew, IsWay, Covers}
use Rattle.iref.proofs.PrefixBitLemmas.{same_bits_refl, same_bits_sym, same_bits_trans, same_bits_less, same_bits_next, same_byte}
use Rattle.iref.proofs.PrefixWayLemmas.{spot_text, root_link}
use Rattle.iref.proofs.PrefixNewTextLemmas.{more, text_old, text_new, first_old, each_text, differs, no_node, covered_near, above_near}

-- the new entry stands below the node on its side, and the child on the other
pub record IsMade (texts : List Text) (t : Text) (n : ℕ) (b : Bit) (c : Child) (node : Node) : Type 0 where
  pub bit_is : node.bit ≡ b
  pub entry_is : (node.entry ≡ n) ⊎ (node.entry ≡ length texts)
  pub ends : b.shift ≡ 8 → length (text_at (texts ++ t ∷ []) node.entry) ≡ b.at
  pub on : child node (bit t (place_of b)) ≡ Leaf (length texts)
  pub off : (side : Bool) → (side ≡ bit t (place_of b) → ⊥) → child node side ≡ c

-- the list with the node at the end, to which the link leads
pub record IsGrown (link : Option (ℕ × Bool)) (old new : Tree) (node : Node) : Type 0 where
  pub long : length new.nodes.items ≡ length old.nodes.items + 1
  pub last : node_at new.nodes.items (length old.nodes.items) ≡ node
  pub bits : (k : ℕ) → k < length old.nodes.items → (node_at new.nodes.items k).bit ≡ (node_at old.nodes.items k).bit
  pub entries : (k : ℕ) → k < length old.nodes.items → (node_at new.nodes.items k).entry ≡ (node_at old.nodes.items k).entry
  pub stays : (k : ℕ) (side : Bool) → k < length old.nodes.items → (link ≡ Some (k, side) → ⊥) → child (node_at new.nodes.items k) side ≡ child (node_at old.nodes.items k) side
  pub moves : (k : ℕ) (side : Bool) → link ≡ Some (k, side) → child (node_at new.nodes.items k) side ≡ Inner (length old.nodes.items)
  pub root_stays : (j : ℕ × Bool) → link ≡ Some j → new.root ≡ old.root
  pub root_moves : link ≡ None → new.root ≡ Some (Inner (length old.nodes.items))
  pub least : new.least ≡ old.least

-- what is noted of the root node
pub record IsNoted (t : Text) (b : Bit) (link : Option (ℕ × Bool)) (old new : Tree) : Type 0 where
  pub stays : (j : ℕ × Bool) → link ≡ Some j → (new.front ≡ old.front) × (new.last ≡ old.last)
  pub moves : link ≡ None → (new.front ≡ b.at) × (0 < b.at → new.last ≡ get_or t (b.at - 1) 0)

-- of two sides one is no other
other_side : (x y z : Bool) → x ≢ z → y ≢ z → x ≡ y
other_side true true z l m = refl
other_side false false z l m = refl
other_side true false true l m = absurd (l refl)
other_side true false false l m = absurd (m refl)
other_side false true true l m = absurd (m refl)
other_side false true false l m = absurd (l refl)

sides : (x y : Bool) → (x ≡ y) ⊎ (x ≡ y → ⊥)
sides true true = inl refl
sides false false = inl refl
sides true false = inr (λ e. cc e)
sides false true = inr (λ e. cc e)

abbrev pub node_of : Option (ℕ × Bool) → ℕ
node_of None = 0
node_of (Some link) = link.0

abbrev pub side_of : Option (ℕ × Bool) → Bool
side_of None = true
side_of (Some link) = link.1

links : (link : Option (ℕ × Bool)) (k : ℕ) (side : Bool) → (link ≡ Some (k, side)) ⊎ (link ≡ Some (k, side) → ⊥)
links None k side = inr (λ e. cc e)
links (Some j) k side = elim (cases_eq j.0 k) [
  | inl l ↦ ⊎_elim (λ m. inl (λ i. Some (l i, m i))) (λ m. inr (λ e. m (ap side_of e))) (sides j.1 side)
  | inr l ↦ inr (λ e. l (ap node_of e))
]

module _ (texts : List Text) (tree : Tree) (t : Text) (n : ℕ) (b : Bit) (h : IsNew texts tree t n b) (link : Option (ℕ × Bool)) (c : Child) (way : IsWay texts tree t n b link c)
    (far : place_of b < (spot texts tree.nodes.items c).place) (tree' : Tree) (node : Node) (made : IsMade texts t n b c node) (grown : IsGrown link tree tree' node) (noted : IsNoted t b link tree tree') where
  abbrev old : List Node
  old = tree.nodes.items

  abbrev new : List Node
  new = tree'.nodes.items

  abbrev q : ℕ
  q = place_of b

  first_new : IsFirst (more texts t) (length texts)
  first_new = let l = length_push texts t in record {
    within = omega arith;
    new = λ j k e. differs texts tree t n b h j (q + 1) k (omega arith) (subst (λ s. SameBits (q + 1) s t) (sym (sym (text_old texts t j k) ∙ e ∙ text_new texts t)) (same_bits_refl (q + 1) t));
  }

  -- the text of the new node
  abbrev own : Text
  own = text_at (more texts t) node.entry

  own_bits : SameBits q own t
  own_bits = elim made.entry_is [
    | inl is ↦ subst (λ s. SameBits q s t) (sym (ap (text_at (more texts t)) is ∙ text_old texts t n h.first.within)) h.split.same
    | inr is ↦ subst (λ s. SameBits q s t) (sym (ap (text_at (more texts t)) is ∙ text_new texts t)) (same_bits_refl q t)
  ]

  own_near : SameBits q own (text_at texts n)
  own_near = same_bits_trans own_bits (same_bits_sym h.split.same)

  own_first : IsFirst (more texts t) node.entry
  own_first = elim made.entry_is [ inl is ↦ subst (IsFirst (more texts t)) (sym is) (first_old texts t n h.first) | inr is ↦ subst (IsFirst (more texts t)) (sym is) first_new ]

  own_within : q ≤ 9 * length own
  own_within = elim made.entry_is [
    | inl is ↦ subst (λ s. q ≤ 9 * length s) (sym (ap (text_at (more texts t)) is ∙ text_old texts t n h.first.within)) h.within
    | inr is ↦ subst (λ s. q ≤ 9 * length s) (sym (ap (text_at (more texts t)) is ∙ text_new texts t)) h.inside
  ]

  -- ---- what stood in the tree, the new entry and the new node

  spot_old : (y : Child) → IsIn texts old y → spot (more texts t) new y ≡ spot texts old y
  spot_old (Inner k) l =
      let text_is : text_at (more texts t) (node_at new k).entry ≡ text_at texts (node_at old k).entry = ap (text_at (more texts t)) (grown.entries k l) ∙ text_old texts t (node_at old k).entry (h.kept.node k l).first.within in
      let place_is : place_of (node_at new k).bit ≡ place_of (node_at old k).bit = ap place_of (grown.bits k l) in
      λ i. record { text = text_is i; place = place_is i }
  spot_old (Leaf m) l = let is = text_old texts t m l in λ i. record { text = is i; place = 9 * length (is i) + 1 }

  abbrev leaf : Spot
  leaf = record { text = t; place = 9 * length t + 1 }

  abbrev inner : Spot
  inner = record { text = own; place = q }

  spot_leaf : spot (more texts t) new (Leaf (length texts)) ≡ leaf
  spot_leaf = λ i. record { text = text_new texts t i; place = 9 * length (text_new texts t i) + 1 }

  spot_inner : spot (more texts t) new (Inner (length old)) ≡ inner
  spot_inner =
      let text_is : text_at (more texts t) (node_at new (length old)).entry ≡ own = ap (λ (m : Node). text_at (more texts t) m.entry) grown.last in
      let place_is : place_of (node_at new (length old)).bit ≡ q = ap (λ (m : Node). place_of m.bit) grown.last ∙ ap place_of made.bit_is in
      λ i. record { text = text_is i; place = place_is i }

  in_old : (y : Child) → IsIn texts old y → IsIn (more texts t) new y
  in_old (Inner k) l = let m = grown.long in omega arith
  in_old (Leaf m) l = omega (arith, length_push texts t)

  number_old : (y : Child) → IsIn texts old y → number_of new y ≡ number_of old y
  number_old (Inner k) l = grown.entries k l
  number_old (Leaf m) l = refl

  number_within : (y : Child) → IsIn texts old y → number_of old y < length texts
  number_within (Inner k) l = (h.kept.node k l).first.within
  number_within (Leaf m) l = l

  whole_new : (B : Spot → Type 0) (x : Spot) → ((y : Child) → IsIn texts old y → B (spot texts old y) → Covers x (spot texts old y)) → (B leaf → Covers x leaf) → (B inner → Covers x inner)
      → (y : Child) → IsIn (more texts t) new y → B (spot (more texts t) new y) → Covers x (spot (more texts t) new y)
  whole_new B x all at_leaf at_inner (Leaf m) l = elim (cases_order m (length texts)) [
    | inl at ↦ subst (λ s. B s → Covers x s) (sym (ap (λ m. spot (more texts t) new (Leaf m)) at ∙ spot_leaf)) at_leaf
    | inr (inl less) ↦ subst (λ s. B s → Covers x s) (sym (spot_old (Leaf m) less)) (all (Leaf m) less)
    | inr (inr above) ↦ absurd (omega (arith, length_push texts t))
  ]
  whole_new B x all at_leaf at_inner (Inner k) l = elim (cases_order k (length old)) [
    | inl at ↦ subst (λ s. B s → Covers x s) (sym (ap (λ k. spot (more texts t) new (Inner k)) at ∙ spot_inner)) at_inner
    | inr (inl less) ↦ subst (λ s. B s → Covers x s) (sym (spot_old (Inner k) less)) (all (Inner k) less)
    | inr (inr above) ↦ let m = grown.long in absurd (omega arith)
  ]

  -- a child that stood in the tree
  link_old : (B : Spot → Type 0) (d : Child) → IsIn texts old d → IsFirst texts (number_of old d) → B (spot texts old d) → ((y : Child) → IsIn texts old y → B (spot texts old y) → Covers (spot texts old d) (spot texts old y))
      → (B leaf → Covers (spot texts old d) leaf) → (B inner → Covers (spot texts old d) inner) → IsLink (more texts t) new B d
  link_old B d l f belongs all at_leaf at_inner = record {
    stands = in_old d l;
    first = subst (IsFirst (more texts t)) (sym (number_old d l)) (first_old texts t (number_of old d) f);
    belongs = subst B (sym (spot_old d l)) belongs;
    whole = subst (λ x. (y : Child) → IsIn (more texts t) new y → B (spot (more texts t) new y) → Covers x (spot (more texts t) new y)) (sym (spot_old d l)) (whole_new B (spot texts old d) all at_leaf at_inner);
  }

  -- the new node
  link_inner : (B : Spot → Type 0) → B inner → ((y : Child) → IsIn texts old y → B (spot texts old y) → Covers inner (spot texts old y)) → (B leaf → Covers inner leaf) → IsLink (more texts t) new B (Inner (length old))
  link_inner B belongs all at_leaf = let m = grown.long in record {
    stands = omega arith;
    first = subst (IsFirst (more texts t)) (sym (ap (λ (m : Node). m.entry) grown.last)) own_first;
    belongs = subst B (sym spot_inner) belongs;
    whole = subst (λ x. (y : Child) → IsIn (more texts t) new y → B (spot (more texts t) new y) → Covers x (spot (more texts t) new y)) (sym spot_inner)
        (whole_new B inner all at_leaf (λ _. record { order = omega arith; same = same_bits_refl q own }));
  }

  own_child : SameBits q own (spot texts old c).text
  own_child = same_bits_trans own_near (same_bits_sym (same_bits_less q (omega arith) way.covers.same))

  -- what the way's child covers the new node covers
  covers_more : (y : Spot) → Covers (spot texts old c) y → Covers inner y
  covers_more y covers = let order = covers.order in record { order = omega arith; same = same_bits_trans own_child (same_bits_less q (omega arith) covers.same) }

  covers_leaf : Covers inner leaf
  covers_leaf = let inside = h.inside in record { order = omega arith; same = own_bits }

  -- what stands before the bit, with its bits of the new text, covers the new entry and the new node
  covers_new : (x : Spot) → x.place ≤ q → SameBits x.place x.text t → Covers x leaf × Covers x inner
  covers_new x l same = let inside = h.inside in
      (record { order = omega arith; same = same }, record { order = l; same = same_bits_trans same (same_bits_sym (same_bits_less x.place l own_bits)) })

  -- ---- the links

  link_stays : (k : ℕ) (side : Bool) → k < length old → (link ≡ Some (k, side) → ⊥) → IsLink (more texts t) new (IsOnSide (spot texts old (Inner k)) side) (child (node_at old k) side)
  link_stays k side l other =
      let place = h.kept.link k side l in
      let x : Spot = spot texts old (Inner k) in
      let d : Spot = spot texts old (child (node_at old k) side) in
      let both : x.place < q → SameBits x.place x.text t → bit t x.place ≡ side → Covers d leaf × Covers d inner = λ above same on.
      let near = above_near texts tree t n b h link c way far k side l other above same on in
      covers_new d near.1 (covered_near texts tree t n b h (child (node_at old k) side) near.0 near.1) in
      let above : SameBits x.place x.text t → x.place < q = λ same. elim (cases_order x.place q) [
        | inl at ↦ absurd (no_node texts tree t n b h k l at (subst (λ r. SameBits r x.text t) at same))
        | inr (inl less) ↦ less
        | inr (inr past) ↦ absurd (differs texts tree t n b h (node_at old k).entry x.place (h.kept.node k l).first.within past same)
      ] in
      link_old (IsOnSide x side) (child (node_at old k) side) place.stands place.first place.belongs place.whole (λ on. (both (above on.same) on.same on.on).0)
      (λ on. let same = same_bits_trans on.same (same_bits_less x.place (let o = on.order in omega arith) own_bits) in (both on.order same (sym (own_bits.same x.place on.order) ∙ on.on)).1)

  link_moves : (j : ℕ × Bool) → link ≡ Some j → IsLink (more texts t) new (IsOnSide (spot texts old (Inner j.0)) j.1) (Inner (length old))
  link_moves j is = by (subst (λ l. IsLink texts old (IsBelow texts old l) c) is way.at)
      (subst (λ l. IfSome l (λ j. (j.0 < length old) × (place_of (node_at old j.0).bit < q) × SameBits (place_of (node_at old j.0).bit) (text_at texts (node_at old j.0).entry) t × (bit t (place_of (node_at old j.0).bit) ≡ j.1))) is way.above)
    where
      by : IsLink texts old (IsOnSide (spot texts old (Inner j.0)) j.1) c
          → (j.0 < length old) × (place_of (node_at old j.0).bit < q) × SameBits (place_of (node_at old j.0).bit) (text_at texts (node_at old j.0).entry) t × (bit t (place_of (node_at old j.0).bit) ≡ j.1)
          → IsLink (more texts t) new (IsOnSide (spot texts old (Inner j.0)) j.1) (Inner (length old))
      by place (l, above, same, on) = link_inner (IsOnSide (spot texts old (Inner j.0)) j.1)
          (record { order = above; same = same_bits_trans same (same_bits_sym (same_bits_less (place_of (node_at old j.0).bit) (omega arith) own_bits)); on = own_bits.same (place_of (node_at old j.0).bit) above ∙ on })
          (λ y m below. covers_more (spot texts old y) (place.whole y m below)) (λ _. covers_leaf)

  link_new : (side : Bool) → IsLink (more texts t) new (IsOnSide inner side) (child node side)
  link_new side = elim (sides side (bit t q)) [
    | inl on ↦ subst (λ s. IsLink (more texts t) new (IsOnSide inner s) (child node s)) (sym on) (subst (IsLink (more texts t) new (IsOnSide inner (bit t q))) (sym made.on) at_leaf)
    | inr off ↦ subst (IsLink (more texts t) new (IsOnSide inner side)) (sym (made.off side off)) (at_child off)
  ]
    where
      at_leaf : IsLink (more texts t) new (IsOnSide inner (bit t q)) (Leaf (length texts))
      at_leaf = let inside = h.inside in record {
        stands = omega (arith, length_push texts t);
        first = first_new;
        belongs = subst (IsOnSide inner (bit t q)) (sym spot_leaf) (record { order = omega arith; same = own_bits; on = refl });
        whole = subst (λ x. (y : Child) → IsIn (more texts t) new y → IsOnSide inner (bit t q) (spot (more texts t) new y) → Covers x (spot (more texts t) new y)) (sym spot_leaf) (whole_new (IsOnSide inner (bit t q)) leaf
            (λ y l on.
            let next = same_bits_next (same_bits_trans (same_bits_sym on.same) own_bits) on.on in
            absurd (differs texts tree t n b h (number_of old y) (q + 1) (number_within y l) (omega arith) (subst (λ s. SameBits (q + 1) s t) (spot_text texts old y) next)))
            (λ _. record { order = omega arith; same = same_bits_refl (9 * length t + 1) t }) (λ on. let order = on.order in absurd (omega arith)));
      }

      belongs_there : (at : Option (ℕ × Bool)) → IfSome at (λ j. (j.0 < length old) × (place_of (node_at old j.0).bit < q) × SameBits (place_of (node_at old j.0).bit) (text_at texts (node_at old j.0).entry) t × (bit t (place_of (node_at old j.0).bit) ≡ j.1))
          → (y : Spot) → IsOnSide inner side y → IsBelow texts old at y
      belongs_there None tt y on = tt
      belongs_there (Some j) (l, above, same, turns) y on =
          let order = on.order in
          let begun = same_bits_trans (same_bits_sym own_bits) on.same in
          record {
            order = omega arith;
            same = same_bits_trans same (same_bits_less (place_of (node_at old j.0).bit) (omega arith) begun);
            on = sym (begun.same (place_of (node_at old j.0).bit) above) ∙ turns;
          }

      at_child : (side ≡ bit t q → ⊥) → IsLink (more texts t) new (IsOnSide inner side) c
      at_child off = link_old (IsOnSide inner side) c way.at.stands way.at.first
          (record { order = far; same = own_child; on = way.covers.same.same q far ∙ other_side (bit (text_at texts n) q) side (bit t q) h.split.differ off })
          (λ y l on. way.at.whole y l (belongs_there link way.above (spot texts old y) on)) (λ on. absurd (off (sym on.on))) (λ on. let order = on.order in absurd (omega arith))

  link_all : (k : ℕ) (side : Bool) → k < length new → IsLink (more texts t) new (IsOnSide (spot (more texts t) new (Inner k)) side) (child (node_at new k) side)
  link_all k side l = elim (cases_order k (length old)) [
    | inl at ↦ subst (λ k. IsLink (more texts t) new (IsOnSide (spot (more texts t) new (Inner k)) side) (child (node_at new k) side)) (sym at)
        (subst (λ x. IsLink (more texts t) new (IsOnSide x side) (child (node_at new (length old)) side)) (sym spot_inner) (subst (λ m. IsLink (more texts t) new (IsOnSide inner side) (child m side)) (sym grown.last) (link_new side)))
    | inr (inl less) ↦ subst (λ x. IsLink (more texts t) new (IsOnSide x side) (child (node_at new k) side)) (sym (spot_old (Inner k) less)) (⊎_elim
        (λ is. subst (IsLink (more texts t) new (IsOnSide (spot texts old (Inner k)) side)) (sym (grown.moves k side is)) (link_moves (k, side) is))
        (λ other. subst (IsLink (more texts t) new (IsOnSide (spot texts old (Inner k)) side)) (sym (grown.stays k side less other)) (link_stays k side less other)) (links link k side))
    | inr (inr above) ↦ let m = grown.long in absurd (omega arith)
  ]

  -- ---- the bytes that all texts begin with

  front_old : (o : Option Child) → MatchOption o (texts ≡ []) (IsLink texts old (IsBelow texts old None)) → IsFront texts old tree.front tree.last o → IsFront (more texts t) new tree.front tree.last o
  front_old None link none = none
  front_old (Some (Leaf m)) link none = none
  front_old (Some (Inner k)) link (at, last) = (
    at ∙ sym (ap (λ (b : Bit). b.at) (grown.bits k link.stands)),
    λ some. last some ∙ ap (λ s. get_or s (tree.front - 1) 0) (sym (ap (λ (x : Spot). x.text) (spot_old (Inner k) link.stands))),
  )

  front_more : IsFront (more texts t) new tree'.front tree'.last tree'.root
  front_more = by link refl
    where
      own_bytes : AreBytes own
      own_bytes = each_text texts t AreBytes h.kept.bytes h.bytes node.entry own_first.within

      by : (at : Option (ℕ × Bool)) → link ≡ at → IsFront (more texts t) new tree'.front tree'.last tree'.root
      by None is =
          let moved = noted.moves is in
          let size : (node_at new (length old)).bit.at ≡ b.at = ap (λ (m : Node). m.bit.at) grown.last ∙ ap (λ (d : Bit). d.at) made.bit_is in
          let text_is : text_at (more texts t) (node_at new (length old)).entry ≡ own = ap (λ (m : Node). text_at (more texts t) m.entry) grown.last in
          subst (IsFront (more texts t) new tree'.front tree'.last) (sym (grown.root_moves is)) (
            moved.0 ∙ sym size,
            λ some. moved.1 (omega (arith, moved.0)) ∙ ap (λ f. get_or t (f - 1) 0) (sym moved.0)
                ∙ sym (same_byte own t (tree'.front - 1) own_bytes h.bytes (same_bits_less (9 * (tree'.front - 1) + 9) (omega (arith, moved.0)) own_bits) (let l = own_within in omega (arith, moved.0)) (let l = h.inside in omega (arith, moved.0)))
                ∙ ap (λ s. get_or s (tree'.front - 1) 0) (sym text_is),
          )
      by (Some j) is =
          let stayed = noted.stays j is in
          subst (IsFront (more texts t) new tree'.front tree'.last) (sym (grown.root_stays j is))
          (subst (λ l. IsFront (more texts t) new tree'.front l tree.root) (sym stayed.1) (subst (λ f. IsFront (more texts t) new f tree.last tree.root) (sym stayed.0) (front_old tree.root h.kept.root h.kept.front)))

  -- ---- the tree

  root_more : MatchOption tree'.root ((more texts t) ≡ []) (IsLink (more texts t) new (IsBelow (more texts t) new None))
  root_more = by link refl way.is way.at way.above
    where
      of_root : (c : Child) → tree'.root ≡ Some c → IsLink (more texts t) new (λ _. Unit {0}) c → MatchOption tree'.root ((more texts t) ≡ []) (IsLink (more texts t) new (IsBelow (more texts t) new None))
      of_root c is = subst (λ o. MatchOption o ((more texts t) ≡ []) (IsLink (more texts t) new (IsBelow (more texts t) new None))) (sym is)

      below_root : (j : ℕ × Bool) → link ≡ Some j → (r : Option Child) → tree.root ≡ r → j.0 < length old → place_of (node_at old j.0).bit < q → SameBits (place_of (node_at old j.0).bit) (text_at texts (node_at old j.0).entry) t
          → MatchOption tree'.root ((more texts t) ≡ []) (IsLink (more texts t) new (IsBelow (more texts t) new None))
      below_root j is None none l above same =
          let empty : texts ≡ [] = subst (λ o. MatchOption o (texts ≡ []) (IsLink texts old (IsBelow texts old None))) none h.kept.root in
          let within = h.first.within in
          absurd (omega (arith, ap length empty))
      below_root j is (Some r) some l above same =
          let root = root_link texts tree r h.kept some in
          let covers = root.whole (Inner j.0) l tt in
          let order = covers.order in
          let new_ones = covers_new (spot texts old r) (omega arith) (same_bits_trans covers.same (same_bits_less (spot texts old r).place order same)) in
          of_root r (grown.root_stays j is ∙ some) (link_old (λ _. Unit {0}) r root.stands root.first tt (λ y m _. root.whole y m tt) (λ _. new_ones.0) (λ _. new_ones.1))

      by : (at : Option (ℕ × Bool)) → link ≡ at → child_at tree at ≡ Some c → IsLink texts old (IsBelow texts old at) c
          → IfSome at (λ j. (j.0 < length old) × (place_of (node_at old j.0).bit < q) × SameBits (place_of (node_at old j.0).bit) (text_at texts (node_at old j.0).entry) t × (bit t (place_of (node_at old j.0).bit) ≡ j.1))
          → MatchOption tree'.root ((more texts t) ≡ []) (IsLink (more texts t) new (IsBelow (more texts t) new None))
      by None is at place tt = of_root (Inner (length old)) (grown.root_moves is) (link_inner (λ _. Unit {0}) tt (λ y l _. covers_more (spot texts old y) (place.whole y l tt)) (λ _. covers_leaf))
      by (Some j) is at place (l, above, same, on) = below_root j is tree.root refl l above same

  node_all : (k : ℕ) → k < length new → IsNode (more texts t) new k
  node_all k l = elim (cases_order k (length old)) [
    | inl at ↦ subst (IsNode (more texts t) new) (sym at) (by_node (node_at new (length old)) grown.last)
    | inr (inl less) ↦ by_old less
    | inr (inr above) ↦ let m = grown.long in absurd (omega arith)
  ]
    where
      by_node : (m : Node) → m ≡ node → IsNode (more texts t) new (length old)
      by_node m is = record {
        shift = subst (λ (b : Bit). b.shift ≤ 8) (sym (ap (λ (m : Node). m.bit) grown.last ∙ made.bit_is)) h.split.shift;
        first = subst (IsFirst (more texts t)) (sym (ap (λ (m : Node). m.entry) grown.last)) own_first;
        within = subst (λ (x : Spot). x.place ≤ 9 * length x.text) (sym spot_inner) own_within;
        ends = λ e. ap (λ (m : Node). length (text_at (more texts t) m.entry)) grown.last ∙ made.ends (sym (ap (λ (m : Node). m.bit.shift) grown.last ∙ ap (λ (b : Bit). b.shift) made.bit_is) ∙ e)
            ∙ sym (ap (λ (m : Node). m.bit.at) grown.last ∙ ap (λ (b : Bit). b.at) made.bit_is);
      }

      by_old : k < length old → IsNode (more texts t) new k
      by_old less = let was = h.kept.node k less in record {
        shift = subst (λ (b : Bit). b.shift ≤ 8) (sym (grown.bits k less)) was.shift;
        first = subst (IsFirst (more texts t)) (sym (grown.entries k less)) (first_old texts t (node_at old k).entry was.first);
        within = subst (λ (x : Spot). x.place ≤ 9 * length x.text) (sym (spot_old (Inner k) less)) was.within;
        ends = λ e. ap (λ (x : Spot). length x.text) (spot_old (Inner k) less) ∙ was.ends (sym (ap (λ (b : Bit). b.shift) (grown.bits k less)) ∙ e) ∙ sym (ap (λ (b : Bit). b.at) (grown.bits k less));
      }

  -- two nodes of one place and of the same bits before it are one
  abbrev Apart : Spot → Spot → ℕ → ℕ → Type 0
  Apart x y j k = x.place ≡ y.place → SameBits x.place x.text y.text → j ≡ k

  apart_all : (j k : ℕ) → j < length new → k < length new → Apart (spot (more texts t) new (Inner j)) (spot (more texts t) new (Inner k)) j k
  apart_all j k l m = elim (cases_order j (length old)) [
    | inl j_at ↦ subst (λ x. Apart x (spot (more texts t) new (Inner k)) j k) (sym (ap (λ k. spot (more texts t) new (Inner k)) j_at ∙ spot_inner)) (elim (cases_order k (length old)) [
      | inl k_at ↦ λ _ _. j_at ∙ sym k_at
      | inr (inl k_less) ↦ subst (λ x. Apart inner x j k) (sym (spot_old (Inner k) k_less))
          (λ at same. absurd (no_node texts tree t n b h k k_less (sym at) (same_bits_trans (same_bits_sym same) own_bits)))
      | inr (inr k_above) ↦ let long = grown.long in absurd (omega arith)
    ])
    | inr (inl j_less) ↦ subst (λ x. Apart x (spot (more texts t) new (Inner k)) j k) (sym (spot_old (Inner j) j_less)) (elim (cases_order k (length old)) [
      | inl k_at ↦ subst (λ x. Apart (spot texts old (Inner j)) x j k) (sym (ap (λ k. spot (more texts t) new (Inner k)) k_at ∙ spot_inner))
          (λ at same. absurd (no_node texts tree t n b h j j_less at (same_bits_trans (subst (λ r. SameBits r (spot texts old (Inner j)).text own) at same) own_bits)))
      | inr (inl k_less) ↦ subst (λ x. Apart (spot texts old (Inner j)) x j k) (sym (spot_old (Inner k) k_less)) (h.kept.apart j k j_less k_less)
      | inr (inr k_above) ↦ let long = grown.long in absurd (omega arith)
    ])
    | inr (inr j_above) ↦ let long = grown.long in absurd (omega arith)
  ]

  pub tree_grown : IsTree (texts ++ t ∷ []) tree'
  tree_grown = record {
    node = node_all;
    link = link_all;
    apart = apart_all;
    root = root_more;
    bytes = each_text texts t AreBytes h.kept.bytes h.bytes;
    least = subst (λ n. (i : ℕ) → i < length (more texts t) → n ≤ length (text_at (more texts t) i)) (sym grown.least) (each_text texts t (λ s. tree.least ≤ length s) h.kept.least h.least);
    front = front_more;
  }
