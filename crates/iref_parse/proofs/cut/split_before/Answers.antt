use Rattle.std.proofs.Common.{subst}
use Rattle.std.specs.Str.{IsCharBoundary}
use Rattle.iref_parse.proofs.PositionLemmas.{position_of_one, boundary_at_position}
use Rattle.iref_parse.proofs.cut.split_before.Goals as goal

pub split_at-requires : goal.split_at-requires
split_at-requires c =
    let text = c.args.text.now in
    let mark = c.args.mark in
    subst (IsCharBoundary text) (cc (position_of_one mark text)) (boundary_at_position mark mark text c.requires c.requires)

pub returns : goal.returns
returns c = record { before = cc; from_first = cc }
