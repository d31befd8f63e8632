-- The answer leads to the target's text.
use Rattle.std.proofs.Common.{arith, ◌≡◌, true, List, [], ◌∷◌, Option, Some}
use Rattle.std.proofs.lemmas.Slice.Eq.{bytes_eq-Decides}
use Rattle.iref_grammar.specs.Reference.{ReferenceValue, spell}
use Rattle.iref_grammar.specs.Resolution.{resolved}
use Rattle.iref_grammar.specs.Relativized.{is_exact, shorter, shortest_exact, candidates, relativized}

one_of_both : (target base r : ReferenceValue) (o : Option ReferenceValue) (answer : ReferenceValue) → is_exact target base r ≡ true
    → ((s : ReferenceValue) → o ≡ Some s → is_exact target base s ≡ true) → shorter r o ≡ Some answer → is_exact target base answer ≡ true
one_of_both target base r o answer exact rest h = grind arith

shortest_exact-exact : (target base : ReferenceValue) (list : List ReferenceValue) (answer : ReferenceValue) → shortest_exact target base list ≡ Some answer → is_exact target base answer ≡ true
shortest_exact-exact target base [] answer h = grind arith
shortest_exact-exact target base (r ∷ rest) answer h = grind (arith, one_of_both target base r (shortest_exact target base rest) answer, shortest_exact-exact target base rest)

pub relativized-exact : (target base r : ReferenceValue) → relativized target base ≡ Some r → spell (resolved base r) ≡ spell target
unfolding relativized
relativized-exact target base r h = (bytes_eq-Decides (spell (resolved base r)) (spell target)).0 (shortest_exact-exact target base (candidates target base) r h)
