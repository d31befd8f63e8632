use Rattle.std.proofs.{Common.{cond, eqb, get_or, replicate, sym, subst, w8}, lemmas.Simd.{tops_compared}}
use Rattle.iref_parse.proofs.LaneLemmas.{HasLanes-select}
use Rattle.iref_parse.specs.Lanes.{HasLanes}
use Rattle.std.specs.Simd.Lanes.{sel_l}
use Rattle.iref_parse.proofs.lanes.equal_to.Goals as goal

pub returns : goal.returns
returns c =
    let v = c.args.v in
    let b = c.args.byte in
    subst (λ ms. HasLanes (sel_l ms (replicate 16 255) (replicate 16 0)) (λ k. cond (eqb (get_or v k 0) b) 255 0))
    (sym (tops_compared w8 eqb v (replicate 16 b))) (HasLanes-select eqb v b 255 0 c.fits-v.0)
