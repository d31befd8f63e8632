-- The trees by which a prefix table finds its entries: by their labels, and by their texts.
use Rattle.std.specs.Prelude.{◌≡◌, ◌≢◌, ℕ, ◌+◌, ◌-◌, ◌*◌, ◌/◌, ◌%◌, ◌<◌, ◌≤◌, ◌==◌, ◌⊎◌, Bool, true, false, List, [], ◌∷◌, ◌++◌, length, map, nat_lt, slice_index, slice_index_or, bytes_eq, Option, Some, None, MatchOption, IfSome, if◌then◌else◌}
use Rattle.std.specs.{Int.{bit_at}, Vec.{vec_len, vec_capacity}}
use Rattle.iref_grammar.specs.Rules.{Text}
use Rattle.iref.specs.{PrefixTable.{PrefixEntry, PrefixTable}, declared.compact.entry.Key.{Key}}
use Rattle.iref.specs.{declared.compact.entry.Key.TheVariants.{Label, Iri}, declared.compact.entry.Entries.{Entries}}
use Rattle.iref.specs.{declared.compact.entry.Lead.{Lead}, declared.compact.entry.Row.{Row}}
use Rattle.iref.specs.{declared.compact.tree.Bit.{Bit}, declared.compact.tree.Child.{Child}}
use Rattle.iref.specs.{declared.compact.tree.Child.TheVariants.{Inner, Leaf}, declared.compact.tree.Near.{Near}}
use Rattle.iref.specs.{declared.compact.tree.Node.{Node}, declared.compact.tree.Tree.{Tree}}

-- what an entry is found by
abbrev pub key_of : Key → PrefixEntry → Text
key_of Label e = e.label
key_of Iri e = e.iri

abbrev pub has_key : Key → Text → PrefixEntry → Bool
has_key key text e = bytes_eq (key_of key e) text

abbrev pub keys_of : Key → PrefixTable → List Text
keys_of key table = map (key_of key) table

abbrev pub text_at : List Text → ℕ → Text
text_at texts n = slice_index_or texts n []

-- ---- what is kept of the entries that were ever added

abbrev pub lead_in : Key → Row → Option Lead
lead_in Label row = row.label
lead_in Iri row = row.iri

abbrev pub all_of : Entries → PrefixTable
all_of entries = map (λ (row : Row). row.entry) entries.rows.items

abbrev pub places_of : Entries → List (Option ℕ)
places_of entries = map (λ (row : Row). row.here) entries.rows.items

abbrev pub leads_of : Key → Entries → List (Option Lead)
leads_of key entries = map (lead_in key) entries.rows.items

-- ---- the first entry of a text

-- no text before it is the same
pub record IsFirst (texts : List Text) (n : ℕ) : Type 0 where
  pub within : n < length texts
  pub new : (i : ℕ) → i < n → text_at texts i ≢ text_at texts n

-- no text is this one
abbrev pub IsAbsent : List Text → Text → Type 0
IsAbsent texts t = (n : ℕ) → n < length texts → text_at texts n ≢ t

-- the first number of this text
abbrev pub IsFirstOf : List Text → Text → ℕ → Type 0
IsFirstOf texts t n = IsFirst texts n × (text_at texts n ≡ t)

-- ---- the entries that the table has

-- the number of the entry at a place
abbrev pub place_at : List (Option ℕ) → ℕ → Option ℕ
place_at places p = slice_index_or places p None

-- an entry of this text has a place
pub record HasPlace (texts : List Text) (places : List (Option ℕ)) (t : Text) : Type 0 where
  pub place : ℕ
  pub number : ℕ
  pub stands : place_at places place ≡ Some number
  pub is : text_at texts number ≡ t

-- the first place of an entry of this text
pub record IsLead (texts : List Text) (places : List (Option ℕ)) (t : Text) (lead : Lead) : Type 0 where
  pub stands : place_at places lead.place ≡ Some lead.number
  pub within : lead.number < length texts
  pub is : text_at texts lead.number ≡ t
  pub first : (p n : ℕ) → p < lead.place → place_at places p ≡ Some n → text_at texts n ≢ t

abbrev pub lead_at : List (Option Lead) → ℕ → Option Lead
lead_at leads n = slice_index_or leads n None

-- the first entry of each text leads to the first place of an entry of that text
pub record IsLed (texts : List Text) (places : List (Option ℕ)) (leads : List (Option Lead)) : Type 0 where
  pub long : length leads ≡ length texts
  pub each : (n : ℕ) → IsFirst texts n → MatchOption (lead_at leads n) (HasPlace texts places (text_at texts n) → ⊥) (IsLead texts places (text_at texts n))

abbrev pub IsLedIn : Key → Entries → Type 0
IsLedIn key entries = IsLed (keys_of key (all_of entries)) (places_of entries) (leads_of key entries)

-- ---- the bits of a text

-- each element is a byte
abbrev pub AreBytes : Text → Type 0
AreBytes text = (k : ℕ) → slice_index text k < 256

-- the byte at a place and 256, or 0 behind the text
unfoldable pub symbol : Text → ℕ → ℕ
symbol text at = if nat_lt at (length text) then 256 + slice_index text at % 256 else 0

-- nine bits of each symbol, the greatest first
unfoldable pub bit : Text → ℕ → Bool
bit text i = bit_at (symbol text (i / 9)) (8 - i % 9) == 1

abbrev pub place_of : Bit → ℕ
place_of b = 9 * b.at + (8 - b.shift)

-- the first bits are the same, so many
pub record SameBits (n : ℕ) (a b : Text) : Type 0 where
  pub same : (i : ℕ) → i < n → bit a i ≡ bit b i

-- the first bit by which two texts differ is this one
pub record IsFirstDifference (b : Bit) (x y : Text) : Type 0 where
  pub shift : b.shift ≤ 8
  pub same : SameBits (place_of b) x y
  pub differ : bit x (place_of b) ≢ bit y (place_of b)

-- ---- what stands in a tree

-- a text, and how many of its first bits all that stands below has
pub record Spot : Type 0 where
  pub text : Text
  pub place : ℕ

abbrev pub node_at : List Node → ℕ → Node
node_at nodes k = slice_index_or nodes k (record { bit = record { at = 0; shift = 0 }; entry = 0; left = Leaf 0; right = Leaf 0; spare = 0 })

abbrev pub child : Node → Bool → Child
child node true = node.right
child node false = node.left

abbrev pub with_child : Node → Bool → Child → Node
with_child node true c = record node { right = c }
with_child node false c = record node { left = c }

abbrev pub number_of : List Node → Child → ℕ
number_of nodes (Inner k) = (node_at nodes k).entry
number_of nodes (Leaf n) = n

abbrev pub spot : List Text → List Node → Child → Spot
spot texts nodes (Inner k) = record { text = text_at texts (node_at nodes k).entry; place = place_of (node_at nodes k).bit }
spot texts nodes (Leaf n) = record { text = text_at texts n; place = 9 * length (text_at texts n) + 1 }

abbrev pub IsIn : List Text → List Node → Child → Type 0
IsIn texts nodes (Inner k) = k < length nodes
IsIn texts nodes (Leaf n) = n < length texts

pub record Covers (x y : Spot) : Type 0 where
  pub order : x.place ≤ y.place
  pub same : SameBits x.place x.text y.text

pub record IsOnSide (x : Spot) (side : Bool) (y : Spot) : Type 0 where
  pub order : x.place < y.place
  pub same : SameBits x.place x.text y.text
  pub on : bit y.text x.place ≡ side

-- the place below the root, or below a node on one side
abbrev pub IsBelow : List Text → List Node → Option (ℕ × Bool) → Spot → Type 0
IsBelow texts nodes None y = Unit {0}
IsBelow texts nodes (Some link) y = IsOnSide (spot texts nodes (Inner link.0)) link.1 y

-- the child belongs at a place, and covers all that does
pub record IsLink (texts : List Text) (nodes : List Node) (Belongs : Spot → Type 0) (c : Child) : Type 0 where
  pub stands : IsIn texts nodes c
  pub first : IsFirst texts (number_of nodes c)
  pub belongs : Belongs (spot texts nodes c)
  pub whole : (y : Child) → IsIn texts nodes y → Belongs (spot texts nodes y) → Covers (spot texts nodes c) (spot texts nodes y)

-- the entry has the bits before the node's, and ends there if the bit says so
pub record IsNode (texts : List Text) (nodes : List Node) (k : ℕ) : Type 0 where
  pub shift : (node_at nodes k).bit.shift ≤ 8
  pub first : IsFirst texts (node_at nodes k).entry
  pub within : place_of (node_at nodes k).bit ≤ 9 * length (text_at texts (node_at nodes k).entry)
  pub ends : (node_at nodes k).bit.shift ≡ 8 → length (text_at texts (node_at nodes k).entry) ≡ (node_at nodes k).bit.at

-- how many bytes all texts below the root node begin with, and the last of them; 0 where there is no node
abbrev pub IsFront : List Text → List Node → ℕ → ℕ → Option Child → Type 0
IsFront texts nodes front last None = front ≡ 0
IsFront texts nodes front last (Some (Leaf n)) = front ≡ 0
IsFront texts nodes front last (Some (Inner k)) = (front ≡ (node_at nodes k).bit.at) × (0 < front → last ≡ slice_index_or (text_at texts (node_at nodes k).entry) (front - 1) 0)

pub record IsTree (texts : List Text) (tree : Tree) : Type 0 where
  pub node : (k : ℕ) → k < length tree.nodes.items → IsNode texts tree.nodes.items k
  pub link : (k : ℕ) (side : Bool) → k < length tree.nodes.items → IsLink texts tree.nodes.items (IsOnSide (spot texts tree.nodes.items (Inner k)) side) (child (node_at tree.nodes.items k) side)
  pub apart : (j k : ℕ) → j < length tree.nodes.items → k < length tree.nodes.items → (spot texts tree.nodes.items (Inner j)).place ≡ (spot texts tree.nodes.items (Inner k)).place
      → SameBits (spot texts tree.nodes.items (Inner j)).place (spot texts tree.nodes.items (Inner j)).text (spot texts tree.nodes.items (Inner k)).text → j ≡ k
  pub root : MatchOption tree.root (texts ≡ []) (IsLink texts tree.nodes.items (IsBelow texts tree.nodes.items None))
  pub bytes : (n : ℕ) → n < length texts → AreBytes (text_at texts n)
  pub least : (n : ℕ) → n < length texts → tree.least ≤ length (text_at texts n)
  pub front : IsFront texts tree.nodes.items tree.front tree.last tree.root

-- room for one more text; the first takes no node
abbrev pub HasRoom : Tree → Type 0
HasRoom tree = tree.root ≢ None → vec_len tree.nodes < vec_capacity tree.nodes

-- ---- where a text leads

-- the text of this number begins the other
abbrev pub IsFit : List Text → Text → ℕ → Type 0
IsFit texts text n = (n < length texts) × SameBits (9 * length (text_at texts n)) (text_at texts n) text

-- the last text that ends on the way and has a place; what fits within `len` bytes and has a place is as long as the text `n`, or no longer than this one
abbrev pub IsEnded : List Text → List (Option ℕ) → Text → ℕ → ℕ → Option Lead → Type 0
IsEnded texts places text len n None = (m : ℕ) → IsFit texts text m → HasPlace texts places (text_at texts m) → length (text_at texts m) ≤ len → length (text_at texts m) ≡ length (text_at texts n)
IsEnded texts places text len n (Some e) = IsLead texts places (text_at texts e.number) e × (length (text_at texts e.number) ≤ len) × SameBits (9 * length (text_at texts e.number)) (text_at texts e.number) (text_at texts n)
    × ((m : ℕ) → IsFit texts text m → HasPlace texts places (text_at texts m) → length (text_at texts m) ≤ len → (length (text_at texts m) ≡ length (text_at texts n)) ⊎ (length (text_at texts m) ≤ length (text_at texts e.number)))

-- the text of this number has as many first bits in common with the text as any, of those of the first symbols
abbrev pub IsNearest : List Text → Text → ℕ → ℕ → Type 0
IsNearest texts text len n = (m q : ℕ) → m < length texts → q ≤ 9 * (len + 1) → SameBits q (text_at texts m) text → SameBits q (text_at texts n) text

pub record IsNear (texts : List Text) (places : List (Option ℕ)) (text : Text) (len : ℕ) (near : Near) : Type 0 where
  pub first : IsFirst texts near.number
  pub is : near.text.now ≡ text_at texts near.number
  pub bytes : AreBytes text
  pub nearest : IsNearest texts text len near.number
  pub ended : IsEnded texts places text len near.number near.ended

-- ---- where a text is added

-- the bit is the first by which a new text differs from the nearest
pub record IsNew (texts : List Text) (tree : Tree) (text : Text) (n : ℕ) (b : Bit) : Type 0 where
  pub kept : IsTree texts tree
  pub first : IsFirst texts n
  pub bytes : AreBytes text
  pub nearest : IsNearest texts text (length text) n
  pub split : IsFirstDifference b (text_at texts n) text
  pub within : place_of b ≤ 9 * length (text_at texts n)
  pub inside : place_of b ≤ 9 * length text
  pub least : tree.least ≤ length text

-- the number of the new text, and the entry of a node of the bit
pub record IsAdded (texts : List Text) (tree : Tree) (text : Text) (n : ℕ) (b : Bit) (entry number : ℕ) : Type 0 where
  pub new : IsNew texts tree text n b
  pub last : number ≡ length texts
  pub one : (entry ≡ n) ⊎ (entry ≡ number)
  pub ends : b.shift ≡ 8 → length (text_at (texts ++ text ∷ []) entry) ≡ b.at

-- the child of the root, or of the node on one side
abbrev pub child_at : Tree → Option (ℕ × Bool) → Option Child
child_at tree None = tree.root
child_at tree (Some link) = Some (child (node_at tree.nodes.items link.0) link.1)

-- the text leads to this link above the bit, and to this child
pub record IsWay (texts : List Text) (tree : Tree) (text : Text) (n : ℕ) (b : Bit) (link : Option (ℕ × Bool)) (c : Child) : Type 0 where
  pub at : IsLink texts tree.nodes.items (IsBelow texts tree.nodes.items link) c
  pub is : child_at tree link ≡ Some c
  pub above : IfSome link (λ l. (l.0 < length tree.nodes.items) × (place_of (node_at tree.nodes.items l.0).bit < place_of b)
      × SameBits (place_of (node_at tree.nodes.items l.0).bit) (text_at texts (node_at tree.nodes.items l.0).entry) text × (bit text (place_of (node_at tree.nodes.items l.0).bit) ≡ l.1))
  pub covers : Covers (spot texts tree.nodes.items c) (spot texts tree.nodes.items (Leaf n))
