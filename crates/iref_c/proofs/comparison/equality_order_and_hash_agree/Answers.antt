use Rattle.std.specs.Hash.DefaultHasher.{initial, with_keys}
use Rattle.iref_c.proofs.ComparisonLemmas.{equal-hash, equal-order}
use Rattle.iref_c.proofs.comparison.equality_order_and_hash_agree.Goals as goal

pub returns : goal.returns
returns c = record { order = equal-order; hash = equal-hash initial; keyed = λ key0 key1. equal-hash (with_keys key0 key1) }
