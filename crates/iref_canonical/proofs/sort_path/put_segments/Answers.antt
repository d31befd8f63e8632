use Rattle.std.proofs.Common.{[], ◌∷◌, arith, ap, ◌∙◌}
use Rattle.std.specs.List.{flat_map}
use Rattle.percent_encoding.specs.Percent.{percent_decode}
use Rattle.iref_path.specs.Pieces.{pieces_if_some}
use Rattle.iref_canonical.specs.SortKey.{sort_item, sort_text}
use Rattle.iref_canonical.proofs.SortItemLemmas.{kept_last, last_kept}
use Rattle.iref_canonical.proofs.sort_path.put_segments.Goals as goal

pub put_text-requires-clause-fits : goal.put_text-requires-clause-fits
put_text-requires-clause-fits g c =
    let rest = pieces_if_some c.last_segment.result.0 in
    let last = c.last_segment.result.1.now in
    let step = kept_last (pieces_if_some c.loop-left.left) rest last c.loop-left.invariant.kept (ap pieces_if_some c.in-Some.is ∙ c.last_segment.ensures) in
    let fits = g.met.O.Backward.fits_both c.loop-left.out (flat_map sort_item rest) (1 ∷ sort_text (percent_decode last)) in
    grind (arith, g.met.O.Backward.fits_both c.loop-left.out (1 ∷ []) (sort_text (percent_decode last)))

pub put-requires : goal.put-requires
put-requires g c =
    let rest = pieces_if_some c.last_segment.result.0 in
    let last = c.last_segment.result.1.now in
    let step = kept_last (pieces_if_some c.loop-left.left) rest last c.loop-left.invariant.kept (ap pieces_if_some c.in-Some.is ∙ c.last_segment.ensures) in
    let fits = g.met.O.Backward.fits_both c.loop-left.out (flat_map sort_item rest) (1 ∷ sort_text (percent_decode last)) in
    grind (arith, g.met.O.Backward.fits_both c.loop-left.out (1 ∷ []) (sort_text (percent_decode last)))

pub loop-left-preserved : goal.loop-left-preserved
loop-left-preserved g c =
    let rest = pieces_if_some c.last_segment.result.0 in
    let last = c.last_segment.result.1.now in
    let is = ap pieces_if_some c.in-Some.is ∙ c.last_segment.ensures in
    let step = kept_last (pieces_if_some c.loop-left.left) rest last c.loop-left.invariant.kept is in
    let fits = g.met.O.Backward.fits_both c.loop-left.out (flat_map sort_item rest) (1 ∷ sort_text (percent_decode last)) in
    let item = g.met.O.Backward.after_both c.loop-left.out (1 ∷ []) (sort_text (percent_decode last)) in
    let all = g.met.O.Backward.after_both c.loop-left.out (flat_map sort_item rest) (1 ∷ sort_text (percent_decode last)) in
    record { same = grind arith; fits = grind arith; kept = (last_kept (pieces_if_some c.loop-left.left) rest last c.loop-left.invariant.kept is).0 }
