-- Equality, order and hash of references agree.
use Rattle.std.proofs.Common.{◌≡◌, ◌↔◌, Bool, true, false, refl, ap, fold, arith, pos}
use Rattle.std.specs.{declared.hash.DefaultHasher.{DefaultHasher}, Hash.DefaultHasher.{finish, write}, Ordering.{is_eq}}
use Rattle.std.specs.{declared.cmp.Ordering.{Ordering}, declared.cmp.Ordering.TheVariants.{Less, Equal, Greater}}
use Rattle.iref.specs.{Key.{are_alike, key, key_cmp}, Reference.{ReferenceValue}, Hashed.{fed_reference}}
use Rattle.iref.proofs.KeyOrderLemmas.{keys_separate}
use Rattle.iref_c.specs.Comparison.{equal_number, hash_from, number_of_equality, number_of_order, order_number}

true_if_one : (b : Bool) → number_of_equality b ≡ 1 → b ≡ true
true_if_one true e = refl
true_if_one false e = let bad : ⊥ = omega (arith, e) in absurd bad

one_where_zero : (o : Ordering) → (number_of_equality (is_eq o) ≡ 1) ↔ (number_of_order o ≡ pos 0)
one_where_zero Less = (λ e. let bad : ⊥ = omega (arith, e) in absurd bad, λ e. let bad : ⊥ = cc in absurd bad)
one_where_zero Equal = (λ e. refl, λ e. refl)
one_where_zero Greater = (λ e. let bad : ⊥ = omega (arith, e) in absurd bad, λ e. let bad : ⊥ = cc in absurd bad)

-- two are equal exactly where their order is 0
pub equal-order : (r s : ReferenceValue) → (equal_number r s ≡ 1) ↔ (order_number r s ≡ pos 0)
equal-order r s = one_where_zero (key_cmp (key r) (key s))

-- and equal ones have one hash, by each hasher
pub equal-hash : (hasher : DefaultHasher) (r s : ReferenceValue) → equal_number r s ≡ 1 → hash_from hasher r ≡ hash_from hasher s
equal-hash hasher r s e = ap (λ k. finish (fold write hasher (fed_reference k))) (keys_separate (key r) (key s) (true_if_one (are_alike r s) e))
