-- The number that a program ends with.
use Rattle.std.specs.Prelude.{ℕ}
use Rattle.iref_batch.specs.declared.status.Status.{Status}
use Rattle.iref_batch.specs.declared.status.Status.TheVariants.{Well, Wrong, Misused}

abbrev pub number_of : Status → ℕ
number_of Well = 0
number_of Wrong = 1
number_of Misused = 2
