use Rattle.std.proofs.Common.{◌≡◌, ◌+◌}
use Rattle.std.specs.Slice.Iter.{chunks_rest, chunks_size}
use Rattle.iref_grammar.specs.Mapping.{count_escaped}
use Rattle.iref_reference_text.proofs.mapped_bytes.count_escaped.Given as goal

-- what is counted, and what is left to count
abbrev pub invariant-loop-part : goal.invariant-loop-part
invariant-loop-part l = record {
  size : chunks_size l.part-iterator ≡ 255;
  counted : l.count + count_escaped (chunks_rest l.part-iterator) ≡ count_escaped l.bytes;
}
