use Rattle.std.proofs.Common.{[], ◌∷◌, arith}
use Rattle.std.specs.List.{flat_map}
use Rattle.percent_encoding.specs.Percent.{percent_decode}
use Rattle.iref_path.specs.NormalItems.{decoded_left, normal_left}
use Rattle.iref_canonical.specs.SortKey.{sort_item, sort_text}
use Rattle.iref_canonical.proofs.SortItemLemmas.{decoded_last}
use Rattle.iref_canonical.proofs.sort_path.put_items.Goals as goal

pub put_text-requires-clause-fits : goal.put_text-requires-clause-fits
put_text-requires-clause-fits g c =
    let item = sort_text (percent_decode c.in-Some.item.now) in
    let step = decoded_last (normal_left c.loop-item.left) (normal_left c.next_back.new.self) c.in-Some.item.now in
    let last = g.met.O.Backward.fits_both c.loop-item.out (flat_map sort_item (decoded_left c.next_back.new.self)) (1 ∷ item) in
    grind (arith, step, last, g.met.O.Backward.fits_both c.loop-item.out (1 ∷ []) item)
