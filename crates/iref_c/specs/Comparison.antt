-- The results of the calls that compare, as numbers.
use Rattle.std.specs.{Prelude.{ℕ, Bool, ℤ, pos, negsuc, fold, if◌then◌else◌}, declared.cmp.Ordering.{Ordering}}
use Rattle.std.specs.declared.cmp.Ordering.TheVariants.{Less, Equal, Greater}
use Rattle.std.specs.declared.hash.DefaultHasher.{DefaultHasher}
use Rattle.std.specs.Hash.DefaultHasher.{initial, with_keys, write, finish}
use Rattle.iref.specs.{Hashed.{fed_reference}, Key.{are_alike, key, key_cmp}, Reference.{ReferenceValue}}

abbrev pub number_of_equality : Bool → ℕ
number_of_equality b = if b then 1 else 0

-- whether they are equal
abbrev pub equal_number : ReferenceValue → ReferenceValue → ℕ
equal_number r s = number_of_equality (are_alike r s)

abbrev pub number_of_order : Ordering → ℤ
number_of_order Less = negsuc 0
number_of_order Equal = pos 0
number_of_order Greater = pos 1

-- the order of their keys
abbrev pub order_number : ReferenceValue → ReferenceValue → ℤ
order_number r s = number_of_order (key_cmp (key r) (key s))

-- what a hasher of std returns for the key
abbrev pub hash_from : DefaultHasher → ReferenceValue → ℕ
hash_from hasher r = finish (fold write hasher (fed_reference (key r)))

-- with keys of 0
abbrev pub hash_number : ReferenceValue → ℕ
hash_number = hash_from initial

-- with these keys
abbrev pub keyed_hash_number : ℕ → ℕ → ReferenceValue → ℕ
keyed_hash_number key0 key1 = hash_from (with_keys key0 key1)
