use Rattle.std.proofs.{Common.{eqb, not, ap, ◌∙◌, arith, w8}, lemmas.Simd.{bitmask_splat}}
use Rattle.iref_parse.proofs.LaneLemmas.{clear_mask}
use Rattle.iref_parse.proofs.lanes.is_clear.Goals as goal

pub returns : goal.returns
returns c =
    let v = c.args.v in
    ap (λ m. eqb m 0) (bitmask_splat w8 (λ a b. not (eqb a b)) v 16 0 c.fits-v.0 (omega arith)) ∙ clear_mask (λ x. eqb x 0) v
