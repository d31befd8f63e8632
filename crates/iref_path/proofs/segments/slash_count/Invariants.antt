use Rattle.std.proofs.Common.{◌≡◌, ◌≤◌, ◌+◌, ◌==◌, count_by}
use Rattle.std.specs.Slice.Iter.{chunks_rest, chunks_size}
use Rattle.iref_grammar.specs.Grammar.{slash}
use Rattle.iref_path.proofs.segments.slash_count.Given as goal

-- what is counted, and what is left to count
abbrev pub invariant-loop-part : goal.invariant-loop-part
invariant-loop-part l = record {
  size : chunks_size l.part-iterator ≤ 255;
  counted : l.count + count_by (λ c. c == slash) (chunks_rest l.part-iterator) ≡ count_by (λ c. c == slash) l.text;
}
