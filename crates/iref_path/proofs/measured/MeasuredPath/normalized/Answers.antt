use Rattle.std.proofs.Common.{arith}
use Rattle.iref_path.proofs.SpellLemmas.{read_size}
use Rattle.iref_path.proofs.measured.MeasuredPath.normalized.Goals as goal

pub of_segments-requires : goal.of_segments-requires
of_segments-requires c = omega (arith, read_size c.args.path.now _ c.split_root-absolute.ensures.path)
