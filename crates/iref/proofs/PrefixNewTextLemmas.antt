-- A new text in a tree: the numbers of texts beside it, and its way.
use Rattle.std.proofs.Common.{arith, ◌≡◌, ℕ, ◌+◌, ◌<◌, ◌≤◌, ◌⊎◌, inl, inr, Bool, List, [], ◌∷◌, ◌++◌, length, get_or, refl, sym, ap, subst, ◌∙◌, ⊎_elim}
use Rattle.std.proofs.lemmas.Bool.{cases_lt, cases_order}
use Rattle.std.proofs.lemmas.List.{get_or_append_left, get_or_push, length_push}
use Rattle.std.specs.Prelude.{Option, Some, None, MatchOption, IfSome, unwrap_or}
use Rattle.iref_grammar.specs.Rules.{Text}
use Rattle.iref.specs.{declared.compact.tree.Bit.{Bit}, declared.compact.tree.Child.{Child}}
use Rattle.iref.specs.declared.compact.tree.Child.TheVariants.{Inner, Leaf}
use Rattle.iref.specs.{declared.compact.tree.Node.{Node}, declared.compact.tree.Tree.{Tree}}
use Rattle.iref.specs.PrefixTree.{text_at, bit, place_of, child, node_at, number_of, spot, SameBits, IsAbsent, IsFirst, IsFirstOf, IsOnSide, IsBelow, IsLink, IsNew, IsWay, Covers}
use Rattle.iref.proofs.PrefixBitLemmas.{same_bits_refl, same_bits_sym, same_bits_trans, same_bits_less, same_bits_next, no_longer}
use Rattle.iref.proofs.PrefixWayLemmas.{spot_text, root_link, read_node}

module _ (texts : List Text) (t : Text) where
  abbrev pub more : List Text
  more = texts ++ t ∷ []

  pub text_old : (i : ℕ) → i < length texts → text_at more i ≡ text_at texts i
  text_old i l = get_or_append_left texts (t ∷ []) [] i l

  pub text_new : text_at more (length texts) ≡ t
  text_new = get_or_push texts t [] (length texts) refl

  pub first_old : (i : ℕ) → IsFirst texts i → IsFirst more i
  first_old i f = let w = f.within in let l = length_push texts t in record {
    within = omega arith;
    new = λ j k e. f.new j k (sym (text_old j (omega arith)) ∙ e ∙ text_old i w);
  }

  -- what holds of each text of the longer list
  pub each_text : (P : Text → Type 0) → ((i : ℕ) → i < length texts → P (text_at texts i)) → P t → (i : ℕ) → i < length more → P (text_at more i)
  each_text P all last i l = elim (cases_order i (length texts)) [
    | inl at ↦ subst P (sym (ap (text_at more) at ∙ text_new)) last
    | inr (inl less) ↦ subst P (sym (text_old i less)) (all i less)
    | inr (inr above) ↦ absurd (omega (arith, length_push texts t))
  ]

module _ (texts : List Text) (tree : Tree) (t : Text) (n : ℕ) (b : Bit) (h : IsNew texts tree t n b) where
  abbrev pub nodes : List Node
  nodes = tree.nodes.items

  abbrev pub p : ℕ
  p = place_of b

  abbrev near : Text
  near = text_at texts n

  -- no text has the bits of the new one up to this bit, and it
  pub differs : (m q : ℕ) → m < length texts → p < q → SameBits q (text_at texts m) t → ⊥
  differs m q l above same =
      let inside = h.inside in
      h.split.differ ((h.nearest m (p + 1) l (omega arith) (same_bits_less (p + 1) (omega arith) same)).same p (omega arith))

  -- no node of this bit has its bits before it
  pub no_node : (k : ℕ) → k < length nodes → place_of (node_at nodes k).bit ≡ p → SameBits p (text_at texts (node_at nodes k).entry) t → ⊥
  no_node k l at same =
      let c : Child = child (node_at nodes k) (bit t p) in
      let link = h.kept.link k (bit t p) l in
      let below : SameBits p (text_at texts (node_at nodes k).entry) (spot texts nodes c).text = subst (λ q. SameBits q (text_at texts (node_at nodes k).entry) (spot texts nodes c).text) at link.belongs.same in
      let on : bit (spot texts nodes c).text p ≡ bit t p = ap (bit (spot texts nodes c).text) (sym at) ∙ link.belongs.on in
      let next = same_bits_next (same_bits_trans (same_bits_sym below) same) on in
      differs (number_of nodes c) (p + 1) link.first.within (omega arith) (subst (λ s. SameBits (p + 1) s t) (spot_text texts nodes c) next)

  -- ---- the way of the text

  pub way_from_root : (c : Child) → c ≡ unwrap_or tree.root (Leaf 0) → IsWay texts tree t n b None c
  way_from_root c is = by tree.root refl is
    where
      by : (o : Option Child) → tree.root ≡ o → c ≡ unwrap_or o (Leaf 0) → IsWay texts tree t n b None c
      by None none c_is =
          let empty : texts ≡ [] = subst (λ o. MatchOption o (texts ≡ []) (IsLink texts nodes (IsBelow texts nodes None))) none h.kept.root in
          let within = h.first.within in
          absurd (omega (arith, ap length empty))
      by (Some d) some c_is =
          let root_is : tree.root ≡ Some c = some ∙ ap (λ d. Some d) (sym c_is) in
          let link = root_link texts tree c h.kept root_is in
          record { at = link; is = root_is; above = tt; covers = link.whole (Leaf n) h.first.within tt }

  -- what is above the bit is so of the new text and of the nearest
  near_side : (k : ℕ) → k < length nodes → place_of (node_at nodes k).bit < p → SameBits (place_of (node_at nodes k).bit) (text_at texts (node_at nodes k).entry) t
      → IsOnSide (spot texts nodes (Inner k)) (bit t (place_of (node_at nodes k).bit)) (spot texts nodes (Leaf n))
  near_side k l above same = let within = h.within in record {
    order = omega arith;
    same = same_bits_trans same (same_bits_sym (same_bits_less (place_of (node_at nodes k).bit) (omega arith) h.split.same));
    on = h.split.same.same (place_of (node_at nodes k).bit) above;
  }

  pub covered_near : (c : Child) → Covers (spot texts nodes c) (spot texts nodes (Leaf n)) → (spot texts nodes c).place ≤ p → SameBits (spot texts nodes c).place (spot texts nodes c).text t
  covered_near c covers l = same_bits_trans covers.same (same_bits_less (spot texts nodes c).place l h.split.same)

  pub way_down : (link : Option (ℕ × Bool)) (k : ℕ) (node : Node) (at next : Child) (side : Bool) → IsWay texts tree t n b link at → at ≡ Inner k → node ≡ get_or nodes k node → place_of node.bit < p → side ≡ bit t (place_of node.bit)
      → next ≡ child node side → IsWay texts tree t n b (Some (k, side)) next
  way_down link k node at next side way is read above side_is next_is =
      let way : IsWay texts tree t n b link (Inner k) = subst (IsWay texts tree t n b link) is way in
      let node_is = read_node nodes k node way.at.stands read in
      let place_is = ap (λ (n : Node). place_of n.bit) node_is in
      let above : place_of (node_at nodes k).bit < p = subst (λ q. q < p) place_is above in
      let side_is : side ≡ bit t (place_of (node_at nodes k).bit) = side_is ∙ ap (bit t) place_is in
      let next_is : next ≡ child (node_at nodes k) side = next_is ∙ ap (λ n. child n side) node_is in
      let l = way.at.stands in
      let same = covered_near (Inner k) way.covers (omega arith) in
      let on = near_side k l above same in
      subst (IsWay texts tree t n b (Some (k, side))) (sym next_is)
      (subst (λ s. IsWay texts tree t n b (Some (k, s)) (child (node_at nodes k) s)) (sym side_is) (let link = h.kept.link k (bit t (place_of (node_at nodes k).bit)) l in record {
        at = link;
        is = refl;
        above = (l, above, same, refl);
        covers = link.whole (Leaf n) h.first.within on;
      }))

  -- the way ends behind the bit
  pub behind_node : (link : Option (ℕ × Bool)) (at : Child) (k : ℕ) (node : Node) → IsWay texts tree t n b link at → at ≡ Inner k → node ≡ get_or nodes k node → p ≤ place_of node.bit
      → IsWay texts tree t n b link (Inner k) × (p < (spot texts nodes (Inner k)).place)
  behind_node link at k node way is read stops =
      let way : IsWay texts tree t n b link (Inner k) = subst (IsWay texts tree t n b link) is way in
      let place_is = ap (λ (n : Node). place_of n.bit) (read_node nodes k node way.at.stands read) in (
        way,
        elim (cases_order p (place_of (node_at nodes k).bit)) [
          | inl at ↦ absurd (no_node k way.at.stands (sym at) (subst (λ q. SameBits q (text_at texts (node_at nodes k).entry) t) (sym at) (covered_near (Inner k) way.covers (omega arith))))
          | inr (inl above) ↦ above
          | inr (inr below) ↦ absurd (omega arith)
        ],
      )

  pub behind_leaf : (link : Option (ℕ × Bool)) (at : Child) (m : ℕ) → IsWay texts tree t n b link at → at ≡ Leaf m → IsWay texts tree t n b link at × (p < (spot texts nodes at).place)
  behind_leaf link at m way is =
      let leaf : IsWay texts tree t n b link (Leaf m) = subst (IsWay texts tree t n b link) is way in
      let order = leaf.covers.order in
      let within = h.within in
      let short = no_longer (text_at texts m) leaf.covers.same (omega arith) in
      let less : p < (spot texts nodes (Leaf m)).place = omega arith in
      (way, subst (λ c. p < (spot texts nodes c).place) (sym is) less)

  -- ---- the tree with one more node

  module _ (link : Option (ℕ × Bool)) (c : Child) (way : IsWay texts tree t n b link c) (far : p < (spot texts nodes c).place) where
    -- a link above the bit, but the way's, leads to a child above it
    pub above_near : (k : ℕ) (side : Bool) (l : k < length nodes) → (link ≡ Some (k, side) → ⊥) → place_of (node_at nodes k).bit < p → SameBits (place_of (node_at nodes k).bit) (text_at texts (node_at nodes k).entry) t
        → bit t (place_of (node_at nodes k).bit) ≡ side → Covers (spot texts nodes (child (node_at nodes k) side)) (spot texts nodes (Leaf n)) × ((spot texts nodes (child (node_at nodes k) side)).place ≤ p)
    above_near k side l other above same on = (covers, ⊎_elim (λ behind. absurd (not_behind link refl other behind way.at way.above)) (λ less. less) (cases_lt p (spot texts nodes (child (node_at nodes k) side)).place))
      where
        covers : Covers (spot texts nodes (child (node_at nodes k) side)) (spot texts nodes (Leaf n))
        covers = (h.kept.link k side l).whole (Leaf n) h.first.within (subst (λ s. IsOnSide (spot texts nodes (Inner k)) s (spot texts nodes (Leaf n))) on (near_side k l above same))

        not_behind : (at : Option (ℕ × Bool)) → link ≡ at → (at ≡ Some (k, side) → ⊥) → p < (spot texts nodes (child (node_at nodes k) side)).place → IsLink texts nodes (IsBelow texts nodes at) c
            → IfSome at (λ j. (j.0 < length nodes) × (place_of (node_at nodes j.0).bit < p) × SameBits (place_of (node_at nodes j.0).bit) (text_at texts (node_at nodes j.0).entry) t × (bit t (place_of (node_at nodes j.0).bit) ≡ j.1)) → ⊥
        not_behind None is other behind root tt = let order = (root.whole (Inner k) l tt).order in absurd (omega arith)
        not_behind (Some j) is other behind place (m, high, begun, turns) =
            let q = place_of (node_at nodes j.0).bit in
            let r = place_of (node_at nodes k).bit in
            elim (cases_order q r) [
              | inl at ↦
                  let j_is : j.0 ≡ k = h.kept.apart j.0 k m l at (same_bits_trans begun (same_bits_sym (subst (λ q. SameBits q (text_at texts (node_at nodes k).entry) t) (sym at) same))) in
                  let side_is : j.1 ≡ side = sym turns ∙ ap (bit t) at ∙ on in
                  other (λ i. Some (j_is i, side_is i))
              | inr (inl lower) ↦
                  let order = (place.whole (Inner k) l (record {
                    order = lower;
                    same = same_bits_trans begun (same_bits_sym (same_bits_less q (omega arith) same));
                    on = same.same q lower ∙ turns;
                  })).order in
                  absurd (omega arith)
              | inr (inr higher) ↦
                  let order = ((h.kept.link k side l).whole (Inner j.0) m (record {
                    order = higher;
                    same = same_bits_trans same (same_bits_sym (same_bits_less r (omega arith) begun));
                    on = begun.same r higher ∙ on;
                  })).order in
                  absurd (omega arith)
            ]

-- ---- the first number of the text

pub first_again : (texts : List Text) (t u : Text) (n : ℕ) → IsFirstOf texts u n → IsFirstOf (texts ++ t ∷ []) u n
first_again texts t u n first = (first_old texts t n first.0, text_old texts t n first.0.within ∙ first.1)

pub first_of_all : (texts : List Text) (t : Text) → IsAbsent texts t → IsFirstOf (texts ++ t ∷ []) t (length texts)
first_of_all texts t absent = (
  record {
    within = omega (arith, length_push texts t);
    new = λ i l same. absent i l (sym (text_old texts t i l) ∙ same ∙ text_new texts t);
  },
  text_new texts t,
)

pub new_absent : (texts : List Text) (tree : Tree) (t : Text) (n : ℕ) (b : Bit) → IsNew texts tree t n b → IsAbsent texts t
new_absent texts tree t n b h m l same = differs texts tree t n b h m (place_of b + 1) l (omega arith) (subst (λ s. SameBits (place_of b + 1) s t) (sym same) (same_bits_refl (place_of b + 1) t))
