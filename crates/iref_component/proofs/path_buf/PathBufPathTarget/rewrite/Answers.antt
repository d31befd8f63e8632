use Rattle.std.proofs.Common.{arith}
use Rattle.iref_path.specs.PathParts.{path_is_text}
use Rattle.iref_component.proofs.PathEditLemmas.{splice_all}
use Rattle.iref_component.proofs.path_buf.PathBufPathTarget.rewrite.Goals as goal

pub rewrite_text-end-requires-clause-utf8 : goal.rewrite_text-end-requires-clause-utf8
rewrite_text-end-requires-clause-utf8 g c = grind (arith, splice_all, path_is_text g.C.CharSet.tests g.met.C.CharSet.above_ascii)
