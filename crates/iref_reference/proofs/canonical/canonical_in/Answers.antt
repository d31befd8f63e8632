use Rattle.std.proofs.Common.{sym, subst}
use Rattle.iref_grammar.specs.Reference.{IsReadable}
use Rattle.iref_reference.proofs.CanonicalLemmas.{readable-reference}
use Rattle.iref_reference.proofs.canonical.canonical_in.Goals as goal

pub write_canonical_text-requires : goal.write_canonical_text-requires
write_canonical_text-requires g c =
    let set = g.C.CharSet.tests in
    let above = g.met.C.CharSet.above_ascii in
    subst (IsReadable set) (sym c.requires.slices) (readable-reference set above c.args.text.now c.requires.reference)
