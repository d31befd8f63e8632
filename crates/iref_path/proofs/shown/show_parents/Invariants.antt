use Rattle.std.specs.{Prelude.{codes, replicate}, Fmt.{HasWritten, IsPlainFormatter}}
use Rattle.iref_path.specs.Spelling.{each_closed}
use Rattle.iref_path.proofs.shown.show_parents.Given as goal

abbrev pub invariant-loop : goal.invariant-loop
invariant-loop g l = IsPlainFormatter l.initial.f → HasWritten g.W.Write.write_str_gives l.initial.f (each_closed (replicate l.counter (codes ".."))) l.f
