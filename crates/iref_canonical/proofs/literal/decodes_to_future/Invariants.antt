use Rattle.std.proofs.Common.{◌≡◌}
use Rattle.percent_encoding.specs.{Percent.{percent_decode}, Iter.{decoded_bytes}}
use Rattle.iref_canonical.specs.{FutureLiteral.{is_read}, declared.literal.Progress.TheVariants.{Nothing}}
use Rattle.iref_canonical.proofs.literal.decodes_to_future.Given as goal

abbrev pub invariant-loop-byte : goal.invariant-loop-byte
invariant-loop-byte l = is_read l.progress (decoded_bytes l.byte-iterator) ≡ is_read Nothing (percent_decode l.text)
