use Rattle.std.proofs.Common.{◌≡◌, take, ◌==◌, count_by}
use Rattle.iref_grammar.specs.Grammar.{slash}
use Rattle.iref_path.proofs.segments.count_in_part.Given as goal

abbrev pub invariant-loop-byte : goal.invariant-loop-byte
invariant-loop-byte l = l.count ≡ count_by (λ c. c == slash) (take l.byte-index l.part)
