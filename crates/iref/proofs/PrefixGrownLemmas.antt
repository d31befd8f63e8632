-- How a tree grows where a text is put.
use Rattle.std.proofs.Common.{arith, ◌≡◌, ◌≢◌, ℕ, ◌+◌, ◌-◌, ◌*◌, ◌<◌, ◌≤◌, ◌⊎◌, inl, inr, Bool, true, false, List, [], ◌∷◌, ◌++◌, length, get_or, refl, sym, ap, subst, ◌∙◌, ⊎_elim, nat_eq}
use Rattle.std.proofs.{lemmas.List.Sums.{common_prefix_len-le}, lemmas.Bool.{cases_eq, cases_order}}
use Rattle.std.proofs.lemmas.List.{get_or_append_left, get_or_push, get_or-set_same, get_or-set_other, length_push}
use Rattle.std.proofs.Math.ListN.{set, length-set}
use Rattle.std.specs.{Prelude.{Option, Some, None, MatchOption}, List.{common_prefix_len}}
use Rattle.std.specs.Global.{Vec}
use Rattle.iref_grammar.specs.Rules.{Text}
use Rattle.iref.specs.{declared.compact.tree.Bit.{Bit}, declared.compact.tree.Child.{Child}}
use Rattle.iref.specs.{declared.compact.tree.Child.TheVariants.{Inner, Leaf}, declared.compact.tree.Near.{Near}}
use Rattle.iref.specs.{declared.compact.tree.Node.{Node}, declared.compact.tree.Tree.{Tree}}
use Rattle.iref.specs.PrefixTree.{text_at, bit, place_of, child, with_child, node_at, number_of, spot, Spot, SameBits, AreBytes, IsFront, IsIn, IsOnSide, IsBelow, IsLink, IsTree, IsNear, IsFirstDifference, IsAdded, Covers}
use Rattle.iref.proofs.PrefixBitLemmas.{same_bits_sym, differ_within, ended_at}
use Rattle.iref.proofs.PrefixWayLemmas.{read_node}
use Rattle.iref.proofs.PrefixNewTextLemmas.{more, text_old, text_new, first_old, each_text}
use Rattle.iref.proofs.PrefixInsertLemmas.{IsMade, IsGrown, node_of, side_of}

-- ---- a text that is there, and the first text

pub lowered : (texts : List Text) (tree : Tree) (least : ℕ) → least ≤ tree.least → IsTree texts tree → IsTree texts (record tree { least = least })
lowered texts tree least l h = record { node = h.node; link = h.link; apart = h.apart; root = h.root; bytes = h.bytes; least = λ i m. let k = h.least i m in omega arith; front = h.front }

module _ (texts : List Text) (tree : Tree) (t : Text) (bytes : AreBytes t) (short : tree.least ≤ length t) (h : IsTree texts tree) where
  abbrev kept : List Node
  kept = tree.nodes.items

  -- the text was there
  module _ (m : ℕ) (l : m < length texts) (is : text_at texts m ≡ t) where
    spot_stays : (y : Child) → IsIn texts kept y → spot (more texts t) kept y ≡ spot texts kept y
    spot_stays (Inner k) w = let is = text_old texts t (node_at kept k).entry (h.node k w).first.within in λ i. record { text = is i; place = place_of (node_at kept k).bit }
    spot_stays (Leaf i) w = let is = text_old texts t i w in λ j. record { text = is j; place = 9 * length (is j) + 1 }

    spot_again : spot (more texts t) kept (Leaf (length texts)) ≡ spot texts kept (Leaf m)
    spot_again = let is = text_new texts t ∙ sym is in λ j. record { text = is j; place = 9 * length (is j) + 1 }

    in_stays : (y : Child) → IsIn texts kept y → IsIn (more texts t) kept y
    in_stays (Inner k) w = w
    in_stays (Leaf i) w = omega (arith, length_push texts t)

    whole_stays : (B : Spot → Type 0) (x : Spot) → ((y : Child) → IsIn texts kept y → B (spot texts kept y) → Covers x (spot texts kept y)) → (y : Child) → IsIn (more texts t) kept y → B (spot (more texts t) kept y) → Covers x (spot (more texts t) kept y)
    whole_stays B x all (Inner k) w = subst (λ s. B s → Covers x s) (sym (spot_stays (Inner k) w)) (all (Inner k) w)
    whole_stays B x all (Leaf i) w = elim (cases_order i (length texts)) [
      | inl at ↦ subst (λ s. B s → Covers x s) (sym (ap (λ i. spot (more texts t) kept (Leaf i)) at ∙ spot_again)) (all (Leaf m) l)
      | inr (inl less) ↦ subst (λ s. B s → Covers x s) (sym (spot_stays (Leaf i) less)) (all (Leaf i) less)
      | inr (inr above) ↦ absurd (omega (arith, length_push texts t))
    ]

    link_kept : (B : Spot → Type 0) (c : Child) → IsLink texts kept B c → IsLink (more texts t) kept B c
    link_kept B c link = record {
      stands = in_stays c link.stands;
      first = first_old texts t (number_of kept c) link.first;
      belongs = subst B (sym (spot_stays c link.stands)) link.belongs;
      whole = subst (λ x. (y : Child) → IsIn (more texts t) kept y → B (spot (more texts t) kept y) → Covers x (spot (more texts t) kept y)) (sym (spot_stays c link.stands)) (whole_stays B (spot texts kept c) link.whole);
    }

    pub tree_again : IsTree (texts ++ t ∷ []) tree
    tree_again = record {
      node = λ k w. let was = h.node k w in let is = spot_stays (Inner k) w in record {
        shift = was.shift;
        first = first_old texts t (node_at kept k).entry was.first;
        within = subst (λ (x : Spot). x.place ≤ 9 * length x.text) (sym is) was.within;
        ends = λ e. ap (λ (x : Spot). length x.text) is ∙ was.ends e;
      };
      link = λ k side w. subst (λ x. IsLink (more texts t) kept (IsOnSide x side) (child (node_at kept k) side)) (sym (spot_stays (Inner k) w)) (link_kept (IsOnSide (spot texts kept (Inner k)) side) (child (node_at kept k) side) (h.link k side w));
      apart = λ j k v w. subst (λ (x : Spot). x.place ≡ (spot (more texts t) kept (Inner k)).place → SameBits x.place x.text (spot (more texts t) kept (Inner k)).text → j ≡ k) (sym (spot_stays (Inner j) v))
          (subst (λ (x : Spot). (spot texts kept (Inner j)).place ≡ x.place → SameBits (spot texts kept (Inner j)).place (spot texts kept (Inner j)).text x.text → j ≡ k) (sym (spot_stays (Inner k) w)) (h.apart j k v w));
      root = by tree.root h.root;
      bytes = each_text texts t AreBytes h.bytes bytes;
      least = each_text texts t (λ s. tree.least ≤ length s) h.least short;
      front = front_stays tree.root h.root h.front;
    }
      where
        front_stays : (o : Option Child) → MatchOption o (texts ≡ []) (IsLink texts kept (IsBelow texts kept None)) → IsFront texts kept tree.front tree.last o → IsFront (more texts t) kept tree.front tree.last o
        front_stays None link none = none
        front_stays (Some (Leaf i)) link none = none
        front_stays (Some (Inner k)) link (at, last) = (at, λ some. last some ∙ ap (λ s. get_or s (tree.front - 1) 0) (sym (text_old texts t (node_at kept k).entry (h.node k link.stands).first.within)))

        by : (o : Option Child) → MatchOption o (texts ≡ []) (IsLink texts kept (IsBelow texts kept None)) → MatchOption o ((more texts t) ≡ []) (IsLink (more texts t) kept (IsBelow (more texts t) kept None))
        by None empty = absurd (omega (arith, ap length empty))
        by (Some c) link = link_kept (λ _. Unit {0}) c link

-- ---- how the list grows

child_put : (node : Node) (side other : Bool) (c : Child) → (side ≡ other → ⊥) → child (with_child node side c) other ≡ child node other
child_put node true true c ne = absurd (ne refl)
child_put node true false c ne = refl
child_put node false true c ne = refl
child_put node false false c ne = absurd (ne refl)

child_there : (node : Node) (side : Bool) (c : Child) → child (with_child node side c) side ≡ c
child_there node true c = refl
child_there node false c = refl

bit_put : (node : Node) (side : Bool) (c : Child) → (with_child node side c).bit ≡ node.bit
bit_put node true c = refl
bit_put node false c = refl

entry_put : (node : Node) (side : Bool) (c : Child) → (with_child node side c).entry ≡ node.entry
entry_put node true c = refl
entry_put node false c = refl

pub made : (texts : List Text) (tree : Tree) (t : Text) (n : ℕ) (b : Bit) (entry number : ℕ) → IsAdded texts tree t n b entry number → (node : Node) (c : Child) (turn : Bool) → turn ≡ bit t (place_of b)
    → ((turn ≡ true) × (node ≡ record { bit = b; entry = entry; left = c; right = Leaf number; spare = 0 })) ⊎ ((turn ≡ false) × (node ≡ record { bit = b; entry = entry; left = Leaf number; right = c; spare = 0 })) → IsMade texts t n b c node
made texts tree t n b entry number h node c turn is cases = record {
  bit_is = elim cases [ inl at ↦ ap (λ (m : Node). m.bit) at.1 | inr at ↦ ap (λ (m : Node). m.bit) at.1 ];
  entry_is = subst (λ e. (e ≡ n) ⊎ (e ≡ length texts)) (sym entry_is) (⊎_elim (λ e. inl e) (λ e. inr (e ∙ h.last)) h.one);
  ends = λ e. ap (λ e. length (text_at (texts ++ t ∷ []) e)) entry_is ∙ h.ends e;
  on = subst (λ s. child node s ≡ Leaf (length texts)) is (elim cases [
    | inl at ↦ (λ i. child (at.1 i) (at.0 i)) ∙ ap (λ n. Leaf n) h.last
    | inr at ↦ (λ i. child (at.1 i) (at.0 i)) ∙ ap (λ n. Leaf n) h.last
  ]);
  off = λ side other. elim cases [
    | inl at ↦ ap (λ m. child m side) at.1 ∙ left_of side (λ s. other (s ∙ sym at.0 ∙ is))
    | inr at ↦ ap (λ m. child m side) at.1 ∙ right_of side (λ s. other (s ∙ sym at.0 ∙ is))
  ];
}
  where
    entry_is : node.entry ≡ entry
    entry_is = elim cases [ inl at ↦ ap (λ (m : Node). m.entry) at.1 | inr at ↦ ap (λ (m : Node). m.entry) at.1 ]

    left_of : (side : Bool) → (side ≡ true → ⊥) → child (record { bit = b; entry = entry; left = c; right = Leaf number; spare = 0 }) side ≡ c
    left_of true other = absurd (other refl)
    left_of false other = refl

    right_of : (side : Bool) → (side ≡ false → ⊥) → child (record { bit = b; entry = entry; left = Leaf number; right = c; spare = 0 }) side ≡ c
    right_of true other = refl
    right_of false other = absurd (other refl)

module _ (old : Tree) (node : Node) (root : Option Child) (vec : Vec Node) (front last : ℕ) where
  abbrev before : List Node
  before = old.nodes.items

  pub grown_above : vec.items ≡ before ++ node ∷ [] → root ≡ Some (Inner (length before)) → IsGrown None old (record { root = root; nodes = vec; least = old.least; front = front; last = last }) node
  grown_above items root_is = record {
    long = ap length items ∙ length_push before node;
    last = ap (λ l. node_at l (length before)) items ∙ get_or_push before node _ (length before) refl;
    bits = λ k l. ap (λ (m : Node). m.bit) (there k l);
    entries = λ k l. ap (λ (m : Node). m.entry) (there k l);
    stays = λ k side l other. ap (λ m. child m side) (there k l);
    moves = λ k side is. cc is;
    root_stays = λ j is. cc is;
    root_moves = λ _. root_is;
    least = refl;
  }
    where
      there : (k : ℕ) → k < length before → node_at vec.items k ≡ node_at before k
      there k l = ap (λ l. node_at l k) items ∙ get_or_append_left before (node ∷ []) _ k l

  pub grown_below : (k : ℕ) (side : Bool) (was : Node) → k < length before → was ≡ get_or (before ++ node ∷ []) k was → vec.items ≡ set (before ++ node ∷ []) k (with_child was side (Inner (length before))) → root ≡ old.root
      → IsGrown (Some (k, side)) old (record { root = root; nodes = vec; least = old.least; front = front; last = last }) node
  grown_below k side was l read items root_is = record {
    long = ap length items ∙ length-set (before ++ node ∷ []) k (with_child was side (Inner (length before))) ∙ length_push before node;
    last = ap (λ l. node_at l (length before)) items ∙ get_or-set_other (before ++ node ∷ []) k (length before) _ _ (omega arith) ∙ get_or_push before node _ (length before) refl;
    bits = λ j m. ⊎_elim (λ at. ap (λ (m : Node). m.bit) (here j at) ∙ bit_put (node_at before j) side _) (λ ne. ap (λ (m : Node). m.bit) (there j m ne)) (cases_eq j k);
    entries = λ j m. ⊎_elim (λ at. ap (λ (m : Node). m.entry) (here j at) ∙ entry_put (node_at before j) side _) (λ ne. ap (λ (m : Node). m.entry) (there j m ne)) (cases_eq j k);
    stays = λ j other m ne. ⊎_elim
        (λ at. ap (λ m. child m other) (here j at) ∙ child_put (node_at before j) side other _ (λ same. ne (λ i. Some (sym at i, same i))))
        (λ apart. ap (λ m. child m other) (there j m apart)) (cases_eq j k);
    moves = λ j other is. ap (λ m. child m other) (here j (sym (ap node_of is))) ∙ ap (λ s. child (with_child (node_at before j) s (Inner (length before))) other) (ap side_of is) ∙ child_there (node_at before j) other _;
    root_stays = λ j is. root_is;
    root_moves = λ is. cc is;
    least = refl;
  }
    where
      in_more : k < length (before ++ node ∷ [])
      in_more = omega (arith, length_push before node)

      was_is : was ≡ node_at before k
      was_is = read_node (before ++ node ∷ []) k was in_more read ∙ get_or_append_left before (node ∷ []) _ k l

      here : (j : ℕ) → j ≡ k → node_at vec.items j ≡ with_child (node_at before j) side (Inner (length before))
      here j at = ap (node_at vec.items) at ∙ ap (λ l. node_at l k) items ∙ get_or-set_same (before ++ node ∷ []) k _ _ in_more ∙ ap (λ m. with_child m side (Inner (length before))) (was_is ∙ ap (node_at before) (sym at))

      there : (j : ℕ) → j < length before → (j ≡ k → ⊥) → node_at vec.items j ≡ node_at before j
      there j m ne = ap (λ l. node_at l j) items ∙ get_or-set_other (before ++ node ∷ []) k j _ _ ne ∙ get_or_append_left before (node ∷ []) _ j m

-- ---- what is added where a text leads

pub added : (texts : List Text) (places : List (Option ℕ)) (tree : Tree) (t : Text) → IsTree texts tree → AreBytes t → tree.least ≤ length t → (near : Near) → IsNear texts places t (length t) near → (b : Bit) (at entry number : ℕ)
    → at ≡ common_prefix_len nat_eq near.text.now t → IsFirstDifference b near.text.now t → b.at ≡ at → number ≡ length texts
    → ((at ≡ length near.text.now) × (entry ≡ near.number)) ⊎ ((at ≢ length near.text.now) × (entry ≡ number)) → IsAdded texts tree t near.number b entry number
added texts places tree t h bytes least near is b at entry number common split at_is last cases = record {
  new = record {
    kept = h;
    first = is.first;
    bytes = bytes;
    nearest = is.nearest;
    split = subst (λ s. IsFirstDifference b s t) is.is split;
    within = subst (λ (s : Text). place_of b ≤ 9 * length s) is.is (differ_within (place_of b) near.text.now t split.same split.differ);
    inside = differ_within (place_of b) t near.text.now (same_bits_sym split.same) (λ e. split.differ (sym e));
    least = least;
  };
  last = last;
  one = ⊎_elim (λ own. inl own.1) (λ new. inr new.1) cases;
  ends = λ e. elim cases [
    | inl own ↦ ap (λ n. length (text_at (more texts t) n)) own.1 ∙ ap length (text_old texts t near.number is.first.within) ∙ sym (ap length is.is) ∙ sym own.0 ∙ sym at_is
    | inr new ↦
        let short = common_prefix_len-le nat_eq near.text.now t in
        let place : place_of b ≡ 9 * at = omega arith in
        ap (λ n. length (text_at (more texts t) n)) (new.1 ∙ last) ∙ ap length (text_new texts t)
        ∙ ended_at near.text.now t at (omega (arith, new.0, short.0)) (omega (arith, short.1)) (subst (λ p. bit near.text.now p ≢ bit t p) place split.differ) ∙ sym at_is
  ];
}
