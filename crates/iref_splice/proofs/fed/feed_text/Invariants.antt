use Rattle.std.proofs.Common.{◌≡◌, fold, length}
use Rattle.iref_splice.specs.Fed.{fed_text}
use Rattle.iref_splice.proofs.fed.feed_text.Given as goal

-- what is written so far, and what is left, are all
abbrev pub invariant-loop-rest : goal.invariant-loop-rest
invariant-loop-rest g l = fold g.H.Hasher.write l.state (fed_text l.rest) ≡ fold g.H.Hasher.write l.fn.state (fed_text l.text)

abbrev pub decreases-loop-rest : goal.decreases-loop-rest
decreases-loop-rest g l = length l.rest
