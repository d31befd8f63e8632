use Rattle.std.proofs.Common.{subst, codes}
use Rattle.std.specs.Option.{option_copied}
use Rattle.iref_grammar.specs.Texts.{then_part}
use Rattle.iref_canonical.specs.CanonicalParts.{encoded_authority}
use Rattle.iref_canonical.proofs.reference.put_marked_authority.Goals as goal

pub put_authority-requires : goal.put_authority-requires
put_authority-requires g c =
    let spelled = subst (λ part. g.O.Backward.fits c.args.out.now (then_part (codes "//") (encoded_authority c.args.raw (option_copied part)))) c.in-Some.is c.requires in
    (g.met.O.Backward.fits_both c.args.out.now (codes "//") _ spelled).0
