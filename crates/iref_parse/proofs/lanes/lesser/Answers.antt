use Rattle.std.proofs.{Common.{get_or, sym, subst, w8, min, nat_lt}, lemmas.Simd.{tops_compared}}
use Rattle.std.specs.Simd.Lanes.{sel_l}
use Rattle.iref_parse.specs.Lanes.{HasLanes}
use Rattle.iref_parse.proofs.LaneLemmas.{HasLanes-lesser}
use Rattle.iref_parse.proofs.lanes.lesser.Goals as goal

pub returns : goal.returns
returns c =
    let a = c.args.a in
    let b = c.args.b in
    subst (λ ms. HasLanes (sel_l ms a b) (λ k. min (get_or a k 0) (get_or b k 0))) (sym (tops_compared w8 nat_lt a b)) (HasLanes-lesser a b c.fits-a.0 c.fits-b.0)
