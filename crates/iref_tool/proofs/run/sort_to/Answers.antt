use Rattle.std.proofs.Common.{map, subst, inl}
use Rattle.std.specs.Io.KnownBytes.{Appends}
use Rattle.iref.specs.References.{reference_text}
use Rattle.iref_batch.specs.{Runs.{with_newlines}, StdStreams.{inner_of}}
use Rattle.iref_tool.proofs.JobRunLemmas.{if_written}
use Rattle.iref_tool.proofs.run.sort_to.Goals as goal

pub returns : goal.returns
returns g c =
    let lines = map (λ r. reference_text r) c.in-Ok.sorted.items in
    let sorts = c.in-Ok.ensures in (
      c.each_text-status.result,
      c.each_text-status.ensures,
      inl (record {
        lines = lines;
        sorts = record { same = sorts.same; order = sorts.order; stable = sorts.stable };
        written = λ none.
            subst (λ sorted. Appends (g.V.Write.contents (inner_of c.args.out.now)) (g.V.Write.contents (inner_of c.put_lines.new.out)) (with_newlines (map (λ r. reference_text r) sorted)))
            c.as_slice.ensures.value (if_written c.put_lines.result _ c.put_lines.ensures.ok c.put_lines.ensures.failed none);
        ends = c.ended.ensures;
      }),
    )
