-- Sort keys of references.
use Rattle.std.specs.{Prelude.{◌≡◌, ◌↔◌, true}, BTreeMap.Lent.{OrdMembers}}
use Rattle.iref_grammar.specs.{Reference.{ReferenceValue}, Rules.{Text}}
use Rattle.iref_grammar.specs.Key.{key_cmp}
use Rattle.iref_canonical.specs.SortKey.{sort_key}

-- of the sort keys of two values, the order is that of the values, and equality is what it is of these
abbrev pub SortsAs : {V : Type 0} → (V → ReferenceValue) → OrdMembers V → OrdMembers Text → Type 0
SortsAs {V} key values sort_keys =
    (a b : V) (x y : Text) → x ≡ sort_key (key a) → y ≡ sort_key (key b)
    → (sort_keys.cmp x y ≡ values.cmp a b) × (sort_keys.eq x y ≡ values.eq a b)

-- of the sort keys of two references of any families, the order is that of the keys, and they are equal where the keys are the same
abbrev pub SortsAsKeys : OrdMembers Text → Type 0
SortsAsKeys sort_keys =
    (k l : ReferenceValue) (x y : Text) → x ≡ sort_key k → y ≡ sort_key l → (sort_keys.cmp x y ≡ key_cmp k l) × ((sort_keys.eq x y ≡ true) ↔ (k ≡ l))
