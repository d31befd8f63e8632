use Rattle.std.proofs.Common.{◌≡◌, ◌+◌, fold, length}
use Rattle.iref_splice.specs.Fed.{waiting_after, written_after}
use Rattle.iref_splice.proofs.fed.Waiting.put.Given as goal

-- what is written so far, and what is left, are all
abbrev pub invariant-loop-rest : goal.invariant-loop-rest
invariant-loop-rest g l = record {
  state : fold g.H.Hasher.write l.state (written_after l.self l.rest) ≡ fold g.H.Hasher.write l.fn.state (written_after l.fn.self l.bytes);
  waiting : waiting_after l.self l.rest ≡ waiting_after l.fn.self l.bytes;
}

abbrev pub decreases-loop-rest : goal.decreases-loop-rest
decreases-loop-rest g l = length l.rest + length l.self
