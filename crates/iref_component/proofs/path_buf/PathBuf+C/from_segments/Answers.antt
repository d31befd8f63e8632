use Rattle.std.proofs.Common.{arith}
use Rattle.iref_component.specs.Components.{text_of}
use Rattle.iref_grammar.proofs.PathLemmas.{read_path-reads}
use Rattle.iref_grammar.specs.PathSteps.{from_segments}
use Rattle.iref_component.proofs.ManyLemmas.{from_segments_next}
use Rattle.iref_component.proofs.path_buf.PathBuf+C.from_segments.Goals as goal

pub loop-segment-init : goal.loop-segment-init
unfolding from_segments
loop-segment-init g c =
    let it = c.into_iter-segment-iterator in
    grind (arith, c.requires it.result it.ensures.into_iter_gives, read_path-reads (text_of c.in_ok-path.path))

pub loop-segment-preserved : goal.loop-segment-preserved
loop-segment-preserved g c =
    grind (arith, c.in-Some.ensures.goes.on c.loop-segment.invariant.ends, from_segments_next text_of c.args.absolute c.loop-segment.yielded c.in-Some.segment)
