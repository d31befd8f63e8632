use Rattle.std.proofs.Common.{[], ◌∷◌, arith}
use Rattle.iref_grammar.specs.Grammar.{colon}
use Rattle.iref_canonical.proofs.authority.put_port.Goals as goal

pub put-requires : goal.put-requires
put-requires g c = grind (arith, g.met.O.Backward.fits_both c.args.out.now (colon ∷ []) c.as_bytes.result.now)

pub returns-in-Some : goal.returns-in-Some
returns-in-Some g c = grind (arith, g.met.O.Backward.after_both c.args.out.now (colon ∷ []) c.as_bytes.result.now)
