use Rattle.std.proofs.Common.{length, arith, ap}
use Rattle.iref_path.specs.{Pieces.{pieces_if_some}, Spelling.{each_closed}}
use Rattle.iref_path.proofs.{ClimbLemmas.{kept-length}, SpellLemmas.{last_size, read_size}}
use Rattle.iref_path.proofs.relative_steps.kept_directory.Goals as goal

pub kept-requires : goal.kept-requires
kept-requires c =
    let rest = ap (λ list. length (each_closed list)) c.without_last.ensures in
    omega (arith, rest, last_size (pieces_if_some c.split_root.result.1), read_size c.args.base.now _ c.split_root.ensures.path)

pub returns-clause-fewer : goal.returns-clause-fewer
returns-clause-fewer c =
    let rest = ap (λ list. length (each_closed list)) c.without_last.ensures in
    let kept = ap length c.kept.ensures.items in
    omega (
      arith,
      rest,
      kept,
      kept-length c.args.absolute (pieces_if_some c.without_last.result),
      last_size (pieces_if_some c.split_root.result.1),
      read_size c.args.base.now _ c.split_root.ensures.path,
    )
