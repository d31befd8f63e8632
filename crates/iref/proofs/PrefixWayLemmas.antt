-- Where a text leads in a tree.
use Rattle.std.proofs.Common.{arith, Bool, ◌≡◌, ◌≢◌, ℕ, ◌+◌, ◌-◌, ◌*◌, ◌<◌, ◌≤◌, ◌⊎◌, inl, inr, List, [], length, get_or, refl, sym, ap, subst, ◌∙◌, ⊎_elim, min, Option, Some, None, MatchOption}
use Rattle.std.proofs.{lemmas.Bool.{cases_lt, cases_order, lt-ltb}, lemmas.List.{get_or_read}}
use Rattle.std.proofs.Math.Nat.{min-eq_left, min-eq_right, min-le_left, min-le_right}
use Rattle.std.specs.Option.{option_or}
use Rattle.iref_grammar.specs.Rules.{Text}
use Rattle.iref.specs.{declared.compact.entry.Lead.{Lead}, declared.compact.tree.Child.{Child}}
use Rattle.iref.specs.{declared.compact.tree.Child.TheVariants.{Inner, Leaf}, declared.compact.tree.Node.{Node}}
use Rattle.iref.specs.declared.compact.tree.Tree.{Tree}
use Rattle.iref.specs.PrefixTree.{text_at, bit, place_of, child, node_at, number_of, spot, Spot, SameBits, AreBytes, IsFirst, IsIn, IsOnSide, IsBelow, IsLink, IsNode, IsTree, IsFit, HasPlace, IsLead, IsEnded, IsNearest, Covers}
use Rattle.iref.proofs.PrefixBitLemmas.{same_bits_refl, same_bits_sym, same_bits_trans, same_bits_less, goes_within, as_long, no_longer, same_text, ends_there, goes_on}

pub spot_text : (texts : List Text) (nodes : List Node) (c : Child) → (spot texts nodes c).text ≡ text_at texts (number_of nodes c)
spot_text texts nodes (Inner k) = refl
spot_text texts nodes (Leaf n) = refl

-- a bit within a text is within each that has the bits before it
pub before_end : {p : ℕ} (a b : Text) → p ≤ 9 * length a → SameBits p a b → p < 9 * length b + 1
before_end {p} a b l h = elim (cases_lt p (9 * length b + 1)) [
  | inl below ↦ below
  | inr above ↦ let short = no_longer b (same_bits_sym h) (omega arith) in omega arith
]

-- the text of this number ends before the place, and goes on there
pub record IsProper (texts : List Text) (x : Spot) (m : ℕ) : Type 0 where
  pub within : m < length texts
  pub before : 9 * length (text_at texts m) < x.place
  pub goes : length (text_at texts m) < length x.text
  pub same : SameBits (9 * length (text_at texts m)) (text_at texts m) x.text

-- the last that ended on the way and has a place, of `len` bytes at most, is as long as each that ends before the place and has one
abbrev pub IsPassed : List Text → List (Option ℕ) → ℕ → Spot → Option Lead → Type 0
IsPassed texts places len x None = (m : ℕ) → IsProper texts x m → HasPlace texts places (text_at texts m) → ⊥
IsPassed texts places len x (Some e) = IsLead texts places (text_at texts e.number) e × (length (text_at texts e.number) ≤ len) × (9 * length (text_at texts e.number) < x.place)
    × SameBits (9 * length (text_at texts e.number)) (text_at texts e.number) x.text
    × ((m : ℕ) → IsProper texts x m → HasPlace texts places (text_at texts m) → length (text_at texts m) ≤ length (text_at texts e.number))

-- the text leads there
pub record IsOnWay (texts : List Text) (places : List (Option ℕ)) (nodes : List Node) (t : Text) (len : ℕ) (c : Child) (ended : Option Lead) : Type 0 where
  pub stands : IsIn texts nodes c
  pub first : IsFirst texts (number_of nodes c)
  pub near : (m q : ℕ) → m < length texts → q ≤ (spot texts nodes c).place → SameBits q (text_at texts m) t → SameBits q (spot texts nodes c).text t
  pub passed : IsPassed texts places len (spot texts nodes c) ended

module _ (texts : List Text) (places : List (Option ℕ)) (nodes : List Node) (t : Text) (len : ℕ) where
  -- what is covered does not end before
  not_proper : (x : Spot) (m : ℕ) → Covers x (spot texts nodes (Leaf m)) → IsProper texts x m → ⊥
  not_proper x m c p =
      let before = p.before in
      let goes = p.goes in
      let order = c.order in
      let short = no_longer (text_at texts m) (same_bits_sym c.same) (omega arith) in
      absurd (omega arith)

  pub way_root : (c : Child) → IsLink texts nodes (IsBelow texts nodes None) c → IsOnWay texts places nodes t len c None
  way_root c link = record {
    stands = link.stands;
    first = link.first;
    near = λ m q l within same. same_bits_trans (same_bits_less q within (link.whole (Leaf m) l tt).same) same;
    passed = λ m p _. not_proper (spot texts nodes c) m (link.whole (Leaf m) p.within tt) p;
  }

  module _ (k : ℕ) (c : Child) (node : IsNode texts nodes k) (link : IsLink texts nodes (IsOnSide (spot texts nodes (Inner k)) (bit t (place_of (node_at nodes k).bit))) c) where
    abbrev p : ℕ
    p = place_of (node_at nodes k).bit

    abbrev x : Text
    x = text_at texts (node_at nodes k).entry

    -- a text with the bits of the node and the next bit of this one is below
    is_below : (m : ℕ) → m < length texts → SameBits p x (text_at texts m) → bit (text_at texts m) p ≡ bit t p → Covers (spot texts nodes c) (spot texts nodes (Leaf m))
    is_below m l same on = link.whole (Leaf m) l (record { order = before_end x (text_at texts m) node.within same; same = same; on = on })

    near_below : ((m q : ℕ) → m < length texts → q ≤ p → SameBits q (text_at texts m) t → SameBits q x t)
        → (m q : ℕ) → m < length texts → q ≤ (spot texts nodes c).place → SameBits q (text_at texts m) t → SameBits q (spot texts nodes c).text t
    near_below near m q l within same = elim (cases_lt p q) [
      | inl below ↦
          let up = near m p l (omega arith) (same_bits_less p (omega arith) same) in
          let covered = is_below m l (same_bits_trans up (same_bits_sym (same_bits_less p (omega arith) same))) (same.same p below) in
          same_bits_trans (same_bits_less q within covered.same) same
      | inr above ↦ same_bits_trans (same_bits_sym (same_bits_less q above link.belongs.same)) (near m q l above same)
    ]

    -- what ends before the child ends before the node, or there
    passed_below : (m : ℕ) → IsProper texts (spot texts nodes c) m → IsProper texts (spot texts nodes (Inner k)) m ⊎ (9 * length (text_at texts m) ≡ p)
    passed_below m h =
        let before = h.before in
        elim (cases_order (9 * length (text_at texts m)) p) [
          | inl at ↦ inr at
          | inr (inl above) ↦ inl (record {
            within = h.within;
            before = above;
            goes = goes_within (length (text_at texts m)) (same_bits_sym link.belongs.same) above h.goes;
            same = same_bits_trans h.same (same_bits_sym (same_bits_less (9 * length (text_at texts m)) (omega arith) link.belongs.same));
          })
          | inr (inr below) ↦ absurd (not_proper (spot texts nodes c) m
              (is_below m h.within (same_bits_trans link.belongs.same (same_bits_sym (same_bits_less p (omega arith) h.same))) (h.same.same p below ∙ link.belongs.on)) h)
        ]

    -- the last that ended there stands, where what has a place ends before the node
    passed_still : ((m : ℕ) → IsProper texts (spot texts nodes c) m → HasPlace texts places (text_at texts m) → IsProper texts (spot texts nodes (Inner k)) m)
        → (ended : Option Lead) → IsPassed texts places len (spot texts nodes (Inner k)) ended → IsPassed texts places len (spot texts nodes c) ended
    passed_still still None none = λ m h has. none m (still m h has) has
    passed_still still (Some e) some = let order = link.belongs.order in let above = some.2 in (
      some.0,
      some.1,
      omega arith,
      same_bits_trans some.3 (same_bits_less (9 * length (text_at texts e.number)) (omega arith) link.belongs.same),
      λ m h has. some.4 m (still m h has) has,
    )

    pub way_end : (ended lead : Option Lead) → IsOnWay texts places nodes t len (Inner k) ended → (node_at nodes k).bit.at ≤ len → (node_at nodes k).bit.shift ≡ 8
        → MatchOption lead (HasPlace texts places x → ⊥) (IsLead texts places x) → ((m : ℕ) → m < length texts → AreBytes (text_at texts m)) → IsOnWay texts places nodes t len c (option_or lead ended)
    way_end ended lead way l ends led bytes = record {
      stands = link.stands;
      first = link.first;
      near = near_below way.near;
      passed = by lead led;
    }
      where
        size : length x ≡ (node_at nodes k).bit.at
        size = node.ends ends

        there : 9 * length x ≡ p
        there = omega arith

        upto : (m : ℕ) → IsProper texts (spot texts nodes (Inner k)) m → length (text_at texts m) ≤ length x
        upto m h = let before = h.before in omega (arith, there)

        -- what ends there is the text of the node
        same_there : (m : ℕ) → IsProper texts (spot texts nodes c) m → 9 * length (text_at texts m) ≡ p → text_at texts m ≡ x
        same_there m h at =
            let both : SameBits (9 * length x) (text_at texts m) x = same_bits_trans (same_bits_less (9 * length x) (omega (arith, there)) h.same) (same_bits_sym (same_bits_less (9 * length x) (omega (arith, there)) link.belongs.same)) in
            let alike : length (text_at texts m) ≡ length x = omega (arith, there) in
            same_text (text_at texts m) x (bytes m h.within) (bytes (node_at nodes k).entry node.first.within)
            (subst (λ n. SameBits (9 * n + 1) (text_at texts m) x) (sym alike) (ends_there (length x) (text_at texts m) x alike refl both))

        by : (lead : Option Lead) → MatchOption lead (HasPlace texts places x → ⊥) (IsLead texts places x) → IsPassed texts places len (spot texts nodes c) (option_or lead ended)
        by None dead = passed_still (λ m h has. ⊎_elim (λ above. above) (λ at. absurd (dead (subst (HasPlace texts places) (same_there m h at) has))) (passed_below m h)) ended way.passed
        by (Some e) is = let order = link.belongs.order in
            subst (λ (s : Text). IsLead texts places s e × (length s ≤ len) × (9 * length s < (spot texts nodes c).place) × SameBits (9 * length s) s (spot texts nodes c).text
            × ((m : ℕ) → IsProper texts (spot texts nodes c) m → HasPlace texts places (text_at texts m) → length (text_at texts m) ≤ length s)) (sym is.is) (
              is,
              omega (arith, size),
              omega (arith, there),
              same_bits_less (9 * length x) (omega (arith, there)) link.belongs.same,
              λ m h _. ⊎_elim (upto m) (λ at. omega (arith, there)) (passed_below m h),
            )

    pub way_on : (ended : Option Lead) → IsOnWay texts places nodes t len (Inner k) ended → (node_at nodes k).bit.shift ≢ 8 → IsOnWay texts places nodes t len c ended
    way_on ended way goes = record {
      stands = link.stands;
      first = link.first;
      near = near_below way.near;
      passed = passed_still (λ m h _. let shift = node.shift in ⊎_elim (λ above. above) (λ at. absurd (omega arith)) (passed_below m h)) ended way.passed;
    }

  -- ---- where the way ends

  pub nearest_leaf : (n : ℕ) (ended : Option Lead) → AreBytes t → AreBytes (text_at texts n) → IsOnWay texts places nodes t len (Leaf n) ended → IsNearest texts t len n
  nearest_leaf n ended bytes own way = λ m q l within same. elim (cases_lt (9 * length (text_at texts n) + 1) q) [
    | inl more ↦
        let is : text_at texts n ≡ t = same_text (text_at texts n) t own bytes (way.near m (9 * length (text_at texts n) + 1) l (omega arith) (same_bits_less (9 * length (text_at texts n) + 1) (omega arith) same)) in
        subst (λ s. SameBits q s t) (sym is) (same_bits_refl q t)
    | inr less ↦ way.near m q l less same
  ]

  pub nearest_inner : (k : ℕ) (ended : Option Lead) → len < (node_at nodes k).bit.at → IsOnWay texts places nodes t len (Inner k) ended → IsNearest texts t len (node_at nodes k).entry
  nearest_inner k ended short way = λ m q l within same. way.near m q l (omega arith) same

  -- a text that ends before the bit of a node has no more bits of a text there, unless it is the one that ends there
  pub nearest_end : (k : ℕ) (ended : Option Lead) → length t ≤ (node_at nodes k).bit.at → AreBytes t → AreBytes (text_at texts (node_at nodes k).entry) → IsNode texts nodes k → IsOnWay texts places nodes t len (Inner k) ended
      → IsNearest texts t len (node_at nodes k).entry
  nearest_end k ended short bytes own node way = λ m q l within same. elim (cases_lt (place_of (node_at nodes k).bit) q) [
    | inl more ↦
        let x = text_at texts (node_at nodes k).entry in
        let upto : SameBits (place_of (node_at nodes k).bit) x t = way.near m (place_of (node_at nodes k).bit) l (omega arith) (same_bits_less (place_of (node_at nodes k).bit) (omega arith) same) in
        let shift = node.shift in
        let inside = node.within in
        let ends : length t ≡ (node_at nodes k).bit.at × (node_at nodes k).bit.shift ≡ 8 = elim (cases_lt (9 * length t) (place_of (node_at nodes k).bit)) [
          | inl before ↦ let no_more = no_longer t (same_bits_sym upto) before in absurd (omega arith)
          | inr there ↦ (omega arith, omega arith)
        ] in
        let size = node.ends ends.1 in
        let at = ends.0 in
        let eight = ends.1 in
        let place : place_of (node_at nodes k).bit ≡ 9 * length x = omega arith in
        let both = ends_there (length x) x t refl (omega arith) (subst (λ p. SameBits p x t) place upto) in
        subst (λ s. SameBits q s t) (sym (same_text x t own bytes both)) (same_bits_refl q t)
    | inr less ↦ way.near m q l less same
  ]

  -- what fits is as long as the nearest, or ends before it
  module _ (n : ℕ) (x : Spot) (is : x.text ≡ text_at texts n) (nearest : IsNearest texts t len n)
      (far : (m : ℕ) → length (text_at texts m) ≤ len → length (text_at texts m) < length (text_at texts n) → 9 * length (text_at texts m) < x.place) where
    fits_near : (m : ℕ) → IsFit texts t m → length (text_at texts m) ≤ len → (length (text_at texts m) ≡ length (text_at texts n)) ⊎ IsProper texts x m
    fits_near m (l, fit) short =
        let same = same_bits_trans fit (same_bits_sym (nearest m (9 * length (text_at texts m)) l (omega arith) fit)) in
        let long = as_long (length (text_at texts m)) (text_at texts m) (text_at texts n) (omega arith) same in
        elim (cases_lt (length (text_at texts m)) (length (text_at texts n))) [
          | inl less ↦ inr (record {
            within = l;
            before = far m short less;
            goes = subst (λ s. length (text_at texts m) < length s) (sym is) less;
            same = subst (SameBits (9 * length (text_at texts m)) (text_at texts m)) (sym is) same;
          })
          | inr more ↦ inl (omega arith)
        ]

    pub ended_near : (ended : Option Lead) → IsPassed texts places len x ended → IsEnded texts places t len n ended
    ended_near None none = λ m fit has short. ⊎_elim (λ same. same) (λ h. absurd (none m h has)) (fits_near m fit short)
    ended_near (Some e) some = (
      some.0,
      some.1,
      subst (SameBits (9 * length (text_at texts e.number)) (text_at texts e.number)) is some.3,
      λ m fit has short. ⊎_elim (λ same. inl same) (λ h. inr (some.4 m h has)) (fits_near m fit short),
    )

-- how many bits the node is before this place
abbrev pub bits_upto : ℕ → List Node → Child → ℕ
bits_upto n nodes (Inner k) = n - place_of (node_at nodes k).bit
bits_upto n nodes (Leaf m) = 0

-- ---- the steps of the search

-- a place before the end of what is read is within the first bytes, and within the text
pub goes_before : (at len size : ℕ) {end : ℕ} → end ≡ min size (len + 1) → at < end → (at ≤ len) × (at < size)
goes_before at len size is l =
    let least = min-le_left size (len + 1) in
    let most = min-le_right size (len + 1) in
    (omega arith, omega arith)

-- any other is behind one of the two
pub ends_before : (at len size : ℕ) {end : ℕ} → end ≡ min size (len + 1) → end ≤ at → (len < at) ⊎ (size ≤ at)
ends_before at len size is l = elim (cases_lt size (len + 1)) [
  | inl less ↦ let at_size = min-eq_left {n = size} {m = len + 1} (omega arith) in inr (omega arith)
  | inr more ↦ let at_len = min-eq_right {n = len + 1} {m = size} more in inl (omega arith)
]

pub read_node : (nodes : List Node) (k : ℕ) (node : Node) → k < length nodes → node ≡ get_or nodes k node → node ≡ node_at nodes k
read_node nodes k node l is = get_or_read nodes k node l is (record { bit = record { at = 0; shift = 0 }; entry = 0; left = Leaf 0; right = Leaf 0; spare = 0 })

pub root_link : (texts : List Text) (tree : Tree) (c : Child) → IsTree texts tree → tree.root ≡ Some c → IsLink texts tree.nodes.items (IsBelow texts tree.nodes.items None) c
root_link texts tree c h is = subst (λ o. MatchOption o (texts ≡ []) (IsLink texts tree.nodes.items (IsBelow texts tree.nodes.items None))) is h.root

pub node_first : (texts : List Text) (tree : Tree) → IsTree texts tree → (k : ℕ) (node : Node) {at : Child} → IsIn texts tree.nodes.items at → at ≡ Inner k → node ≡ get_or tree.nodes.items k node → IsFirst texts node.entry
node_first texts tree h k node stands is read =
    let within : k < length tree.nodes.items = subst (IsIn texts tree.nodes.items) is stands in
    subst (λ (n : Node). IsFirst texts n.entry) (sym (read_node tree.nodes.items k node within read)) (h.node k within).first

-- a text that goes on has the bit that says so
pub goes_right : (t : Text) (node : Node) → node.bit.shift ≡ 8 → node.bit.at < length t → node.right ≡ child node (bit t (place_of node.bit))
goes_right t node eight l =
    let place : place_of node.bit ≡ 9 * node.bit.at = omega arith in
    sym (ap (λ i. child node (bit t i)) place ∙ ap (child node) (goes_on t node.bit.at ∙ lt-ltb node.bit.at (length t) l))

-- fewer bits are left below a node
pub bits_fewer : (texts : List Text) (tree : Tree) (len k : ℕ) (node : Node) (at : Child) (side : Bool) → IsTree texts tree → IsIn texts tree.nodes.items at → at ≡ Inner k → node ≡ get_or tree.nodes.items k node → node.bit.at ≤ len
    → bits_upto (9 * (len + 1)) tree.nodes.items (child node side) < bits_upto (9 * (len + 1)) tree.nodes.items at
bits_fewer texts tree len k node at side h stands is read l =
    let nodes = tree.nodes.items in
    let within : k < length nodes = subst (IsIn texts nodes) is stands in
    let node_is = read_node nodes k node within read in
    let at_is = ap (λ (n : Node). n.bit.at) node_is in
    let order = (h.link k side within).belongs.order in
    let less : bits_upto (9 * (len + 1)) nodes (child (node_at nodes k) side) < 9 * (len + 1) - place_of (node_at nodes k).bit = go (child (node_at nodes k) side) (omega arith) order in
    subst (λ c. bits_upto (9 * (len + 1)) nodes (child node side) < bits_upto (9 * (len + 1)) nodes c) (sym is) (subst (λ (n : Node). bits_upto (9 * (len + 1)) nodes (child n side) < 9 * (len + 1) - place_of (node_at nodes k).bit) (sym node_is) less)
  where
    go : (c : Child) → place_of (node_at tree.nodes.items k).bit < 9 * (len + 1) → place_of (node_at tree.nodes.items k).bit < (spot texts tree.nodes.items c).place
        → bits_upto (9 * (len + 1)) tree.nodes.items c < 9 * (len + 1) - place_of (node_at tree.nodes.items k).bit
    go (Inner j) upto order = omega arith
    go (Leaf n) upto order = omega arith

module _ (texts : List Text) (places : List (Option ℕ)) (tree : Tree) (t : Text) (len : ℕ) (h : IsTree texts tree) where
  pub way_next : (k : ℕ) (node : Node) (at next : Child) (ended later lead : Option Lead) → IsOnWay texts places tree.nodes.items t len at ended → at ≡ Inner k → node ≡ get_or tree.nodes.items k node → node.bit.at ≤ len
      → next ≡ child node (bit t (place_of node.bit)) → ((node.bit.shift ≡ 8) × MatchOption lead (HasPlace texts places (text_at texts node.entry) → ⊥) (IsLead texts places (text_at texts node.entry)) × (later ≡ option_or lead ended)) ⊎ ((node.bit.shift ≢ 8) × (later ≡ ended)) → IsOnWay texts places tree.nodes.items t len next later
  way_next k node at next ended later lead way is read l next_is cases =
      let nodes = tree.nodes.items in
      let way : IsOnWay texts places nodes t len (Inner k) ended = subst (λ c. IsOnWay texts places nodes t len c ended) is way in
      let node_is = read_node nodes k node way.stands read in
      let next_is : next ≡ child (node_at nodes k) (bit t (place_of (node_at nodes k).bit)) = next_is ∙ ap (λ (n : Node). child n (bit t (place_of n.bit))) node_is in
      let c : Child = child (node_at nodes k) (bit t (place_of (node_at nodes k).bit)) in
      let node = h.node k way.stands in
      let link = h.link k (bit t (place_of (node_at nodes k).bit)) way.stands in
      subst (λ c. IsOnWay texts places nodes t len c later) (sym next_is) (elim cases [
        | inl ends ↦
            let shift : (node_at nodes k).bit.shift ≡ 8 = sym (ap (λ (n : Node). n.bit.shift) node_is) ∙ ends.0 in
            let at_is = ap (λ (n : Node). n.bit.at) node_is in
            let led = subst (λ (n : Node). MatchOption lead (HasPlace texts places (text_at texts n.entry) → ⊥) (IsLead texts places (text_at texts n.entry))) node_is ends.1 in
            subst (IsOnWay texts places nodes t len c) (sym ends.2) (way_end texts places nodes t len k c node link ended lead way (omega arith) shift led h.bytes)
        | inr goes ↦
            subst (IsOnWay texts places nodes t len c) (sym goes.1) (way_on texts places nodes t len k c node link ended way (λ e. goes.0 (ap (λ (n : Node). n.bit.shift) node_is ∙ e)))
      ])

  -- the number where the way ends
  abbrev pub EndsAt : ℕ → Option Lead → Type 0
  EndsAt n ended = IsFirst texts n × IsNearest texts t len n × IsEnded texts places t len n ended

  pub way_to_leaf : (at : Child) (n : ℕ) (ended : Option Lead) → AreBytes t → IsOnWay texts places tree.nodes.items t len at ended → at ≡ Leaf n → EndsAt n ended
  way_to_leaf at n ended bytes way is =
      let way : IsOnWay texts places tree.nodes.items t len (Leaf n) ended = subst (λ c. IsOnWay texts places tree.nodes.items t len c ended) is way in
      let nearest = nearest_leaf texts places tree.nodes.items t len n ended bytes (h.bytes n way.stands) way in
      (way.first, nearest, ended_near texts places tree.nodes.items t len n (spot texts tree.nodes.items (Leaf n)) refl nearest (λ m l less. omega arith) ended way.passed)

  pub way_to_inner : (at : Child) (k n : ℕ) (node other : Node) (ended : Option Lead) → AreBytes t → len ≤ length t → IsOnWay texts places tree.nodes.items t len at ended → at ≡ Inner k → node ≡ get_or tree.nodes.items k node
      → (len < node.bit.at) ⊎ (length t ≤ node.bit.at) → other ≡ get_or tree.nodes.items k other → n ≡ other.entry → EndsAt n ended
  way_to_inner at k n node other ended bytes within way is read short again n_is =
      let nodes = tree.nodes.items in
      let way : IsOnWay texts places nodes t len (Inner k) ended = subst (λ c. IsOnWay texts places nodes t len c ended) is way in
      let at_is = ap (λ (n : Node). n.bit.at) (read_node nodes k node way.stands read) in
      let node = h.node k way.stands in
      let e = (node_at nodes k).entry in
      let nearest : IsNearest texts t len e = elim short [
        | inl before ↦ nearest_inner texts places nodes t len k ended (omega arith) way
        | inr behind ↦ nearest_end texts places nodes t len k ended (omega arith) bytes (h.bytes e node.first.within) node way
      ] in
      let far : (m : ℕ) → length (text_at texts m) ≤ len → length (text_at texts m) < length (text_at texts e) → 9 * length (text_at texts m) < place_of (node_at nodes k).bit = λ m upto less. elim (cases_lt (node_at nodes k).bit.shift 8) [
        | inl later ↦ elim short [ inl before ↦ omega arith | inr behind ↦ omega arith ]
        | inr first ↦
            let shift = node.shift in
            let size = node.ends (omega arith) in
            omega arith
      ] in
      subst (λ n. EndsAt n ended) (sym (n_is ∙ ap (λ (n : Node). n.entry) (read_node nodes k other way.stands again)))
      (way.first, nearest, ended_near texts places nodes t len e (spot texts nodes (Inner k)) refl nearest far ended way.passed)
