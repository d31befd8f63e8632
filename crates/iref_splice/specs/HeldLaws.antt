-- A text that is counted and held: nothing changes it, and one piece before another is one piece.
use Rattle.std.proofs.{Common.{◌≡◌, ℕ, [], ◌++◌, arith, append_assoc, length-append, Option, Some, None}, lemmas.Bool.Decides.{nat_tests}}
use Rattle.iref_grammar.specs.Rules.{Text}
use Rattle.iref_splice.specs.{Backward.{counted_after}, BackwardLaws.{counted-both, counted-nothing}}
use Rattle.iref_splice.specs.Held.{Taken, held_after, taken_after}

nothing-held : (n : ℕ) (o : Option Text) → held_after n (counted_after n []) [] o ≡ o
nothing-held n None = grind (arith, nat_tests)
nothing-held n (Some t) = grind (arith, nat_tests)

pub held-nothing : (t : Taken) → taken_after t [] ≡ t
held-nothing t = λ i. record { count = counted-nothing t.count i; text = nothing-held t.count t.text i }

both-held : (n : ℕ) (o : Option Text) (front back : Text)
    → held_after (counted_after n back) (counted_after (counted_after n back) front) front (held_after n (counted_after n back) back o)
    ≡ held_after n (counted_after n (front ++ back)) (front ++ back) o
both-held n None front back = grind (arith, nat_tests)
both-held n (Some t) front back = grind (arith, nat_tests, length-append, append_assoc front back t)

pub held-both : (t : Taken) (front back : Text) → taken_after (taken_after t back) front ≡ taken_after t (front ++ back)
held-both t front back = λ i. record { count = counted-both t.count front back i; text = both-held t.count t.text front back i }
