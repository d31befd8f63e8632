use Rattle.std.proofs.Common.{◌≡◌, take}
use Rattle.iref_grammar.specs.Mapping.{count_escaped}
use Rattle.iref_reference_text.proofs.mapped_bytes.count_in_part.Given as goal

abbrev pub invariant-loop-byte : goal.invariant-loop-byte
invariant-loop-byte l = l.count ≡ count_escaped (take l.byte-index l.part)
