use Rattle.std.proofs.Common.{arith}
use Rattle.iref_path.specs.Pieces.{pieces_if_some}
use Rattle.iref_path.proofs.{MergedPathLemmas.{after_size}, SpellLemmas.{read_size}}
use Rattle.iref_path.proofs.measured.MeasuredPath.normalized_after.Goals as goal

pub of_segments-requires : goal.of_segments-requires
of_segments-requires c = omega (arith, read_size c.args.path.now _ c.split_root-absolute.ensures.path)

pub of_segments-requires-2 : goal.of_segments-requires-2
of_segments-requires-2 c =
    omega (arith, after_size _ _ _ _ (pieces_if_some c.without_last.result) _ _ c.split_root-absolute-2.ensures.path c.split_root-absolute.ensures.path c.without_last.ensures)
