use Rattle.std.proofs.Common.{◌++◌, [], refl, append_assoc}
use Rattle.iref_batch.specs.{declared.lines.Lines.{Lines}, Runs.{with_newline}}
use Rattle.iref_batch.proofs.Writing.{on_err}
use Rattle.iref_batch.proofs.RunLemmas.{in_run_nothing, in_run_next, in_run_more, in_run_written, line_taken, line_seen, line_is_less}
use Rattle.iref_batch.proofs.EndLemmas.{breaks_at_flush}
use Rattle.iref_batch.proofs.lines.Lines.take.Goals as goal

pub loop-tail-init : goal.loop-tail-init
loop-tail-init g c = record { taken = ([], refl, in_run_nothing _ _); works = c.requires }

pub loop-tail-preserved : goal.loop-tail-preserved
loop-tail-preserved g c =
    let w = c.loop-tail.invariant.taken in
    let tail = c.in-Some.tail.now in record {
      taken = (
        w.0 ++ with_newline tail,
        line_taken c.args.block.now w.0 c.loop-tail.rest.now tail c.in-Some.more.now w.1 c.in-Some.ensures.1,
        in_run_next w.0 (with_newline tail) _ _ _ _ _ _ _ refl w.2 c.in_ok-end_line.ensures.ok,
      );
      works = c.in_ok-end_line.ensures.failed;
    }

pub loop-tail-smaller : goal.loop-tail-smaller
loop-tail-smaller g c = line_is_less c.loop-tail.rest.now c.in-Some.tail.now c.in-Some.more.now c.in-Some.ensures.1

pub end_line-requires-clause-line : goal.end_line-requires-clause-line
end_line-requires-clause-line g c = c.in-Some.ensures.0

pub returns-in_err-end_line-clause-cut : goal.returns-in_err-end_line-clause-cut
returns-in_err-end_line-clause-cut g c =
    let w = c.loop-tail.invariant.taken in
    let more = c.in-Some.more.now in
    on_err c.from_residual.result (λ others seen before s.
    rw (← line_seen seen c.args.block.now w.0 c.loop-tail.rest.now c.in-Some.tail.now more others w.1 c.in-Some.ensures.1)
    (c.in_err-end_line.ensures.cut (more ++ others) (seen ++ w.0) before (w.2 seen before s)))

pub returns-clause-ok : goal.returns-clause-ok
returns-clause-ok g c =
    let w = c.loop-tail.invariant.taken in
    λ seen before s.
    in_run_written _ before _ _ _ _ refl c.in_ok-flush.ensures.empty c.in_ok-flush.ensures.ok
    (in_run_next w.0 c.loop-tail.rest.now _ _ _ _ _ _ _ w.1 w.2
    (in_run_more c.loop-tail.rest.now _ _ _ c.in_default.ensures c.keep.ensures.works c.keep.ensures.kept c.keep.ensures.some refl) seen before s)

pub returns-in_err-flush-clause-cut : goal.returns-in_err-flush-clause-cut
returns-in_err-flush-clause-cut g c =
    let w = c.loop-tail.invariant.taken in
    let kept : Lines = record { begun = c.keep.new.self; gathered = c.loop-tail.self.gathered } in
    on_err c.from_residual-in_err-flush.result (λ others seen before s.
    rw (← append_assoc seen c.args.block.now others)
    (breaks_at_flush others _ _ kept c.in_err-flush.ensures.cut (seen ++ c.args.block.now) before
    (in_run_next w.0 c.loop-tail.rest.now _ _ _ _ _ _ _ w.1 w.2
    (in_run_more c.loop-tail.rest.now _ _ _ c.in_default.ensures c.keep.ensures.works c.keep.ensures.kept c.keep.ensures.some refl) seen before s)))
