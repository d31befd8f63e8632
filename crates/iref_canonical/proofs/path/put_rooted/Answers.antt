use Rattle.std.proofs.Common.{[], ◌∷◌, map, arith}
use Rattle.std.specs.List.{join_with_byte}
use Rattle.percent_encoding.specs.Percent.{percent_decode}
use Rattle.iref_grammar.specs.Grammar.{slash}
use Rattle.iref_path.proofs.SpellLemmas.{read_size}
use Rattle.iref_path.specs.Pieces.{pieces_if_some}
use Rattle.iref_canonical.specs.SpelledItems.{spelled_items}
use Rattle.iref_canonical.proofs.RootedPathLemmas.{rooted-items}
use Rattle.iref_canonical.proofs.path.put_rooted.Goals as goal

pub new-requires : goal.new-requires
new-requires g c = omega (arith, read_size c.args.path.now _ c.split_root.ensures.path)

pub put_names-requires : goal.put_names-requires
put_names-requires g c =
    let spelled = rooted-items c.args.raw c.args.path.now c.split_root.result.0 (pieces_if_some c.split_root.result.1) c.new.result c.requires.absolute c.split_root.ensures.path c.new.ensures in
    let items = join_with_byte slash (spelled_items c.args.raw 0 (map percent_decode c.new.result)) in
    grind (arith, g.met.O.Backward.fits_both c.args.out.now (slash ∷ []) items, spelled)

pub put-requires : goal.put-requires
put-requires g c =
    let spelled = rooted-items c.args.raw c.args.path.now c.split_root.result.0 (pieces_if_some c.split_root.result.1) c.new.result c.requires.absolute c.split_root.ensures.path c.new.ensures in
    let items = join_with_byte slash (spelled_items c.args.raw 0 (map percent_decode c.new.result)) in
    grind (arith, g.met.O.Backward.fits_both c.args.out.now (slash ∷ []) items, spelled)

pub returns : goal.returns
returns g c =
    let spelled = rooted-items c.args.raw c.args.path.now c.split_root.result.0 (pieces_if_some c.split_root.result.1) c.new.result c.requires.absolute c.split_root.ensures.path c.new.ensures in
    let items = join_with_byte slash (spelled_items c.args.raw 0 (map percent_decode c.new.result)) in
    grind (arith, g.met.O.Backward.after_both c.args.out.now (slash ∷ []) items, spelled)
