use Rattle.std.proofs.Common.{◌++◌, [], refl}
use Rattle.iref_batch.specs.Runs.{with_newline}
use Rattle.iref_batch.proofs.RunLemmas.{line_taken, line_is_less}
use Rattle.iref_tool.proofs.StreamLemmas.{read_nothing, read_next, read_line, read_part}
use Rattle.iref_tool.proofs.input.take_block.Goals as goal

pub loop-tail-init : goal.loop-tail-init
loop-tail-init g c = ([], refl, read_nothing g.T.TakesLines.given _ _)

pub loop-tail-preserved : goal.loop-tail-preserved
loop-tail-preserved g c =
    let given = g.T.TakesLines.given in
    let w = c.loop-tail.invariant in
    let tail = c.in-Some.tail.now in (
      w.0 ++ with_newline tail,
      line_taken c.args.block.now w.0 c.loop-tail.rest.now tail c.in-Some.more.now w.1 c.in-Some.ensures.1,
      read_next given w.0 (with_newline tail) _ _ _ _ _ _ _ refl w.2
          (read_line given g.met.T.TakesLines.given_more tail _ _ _ _ c.in-Some.ensures.0 c.end_line.ensures.begun c.in_ok-end_line.ensures.line),
    )

pub loop-tail-smaller : goal.loop-tail-smaller
loop-tail-smaller g c = line_is_less c.loop-tail.rest.now c.in-Some.tail.now c.in-Some.more.now c.in-Some.ensures.1

pub returns-clause-more : goal.returns-clause-more
returns-clause-more g c =
    let given = g.T.TakesLines.given in
    let w = c.loop-tail.invariant in
    let rest = c.loop-tail.rest.now in
    read_next given w.0 rest c.args.block.now _ _ _ _ _ _ w.1 w.2 (read_part given rest _ _ _ c.in_default.ensures c.keep.ensures.works c.keep.ensures.kept c.keep.ensures.some)
