use Rattle.std.proofs.{Common.{arith}, lemmas.Grind.{common_steps}}
use Rattle.iref_splice.proofs.PartLemmas.{part_stands}
use Rattle.iref_component.specs.PathEdits.{path_mut_context, path_mut_text}
use Rattle.iref_component.proofs.PathEditLemmas.{normal_dots, normal_fits}
use Rattle.iref_path.proofs.SpellLemmas.{normalized-read}
use Rattle.iref_component.proofs.path_mut.PathMut.normalize.Goals as goal

pub returns-then-len-path-clause-dots : goal.returns-then-len-path-clause-dots
returns-then-len-path-clause-dots g c = grind (arith, normal_dots)

pub rewrite-self-requires-clause-test : goal.rewrite-self-requires-clause-test
rewrite-self-requires-clause-test g c =
    (normal_fits g.C.CharSet.tests g.met.C.CharSet.above_ascii (path_mut_context c.args.self.now) c.text-path.result.now (path_mut_text c.args.self.now) c.normal_guard-len.result.0.now
    c.text-path.ensures.value c.normal_guard-len.ensures.text c.text-path.ensures.test).2

pub rewrite-self-requires-clause-reads : goal.rewrite-self-requires-clause-reads
rewrite-self-requires-clause-reads g c = grind (arith, normal_fits g.C.CharSet.tests g.met.C.CharSet.above_ascii)

pub returns-clause-edit : goal.returns-clause-edit
returns-clause-edit g c = grind (arith, common_steps, part_stands, normal_fits, normalized-read)

pub returns-clause-dots : goal.returns-clause-dots
returns-clause-dots g c = grind (arith, normal_dots, returns-clause-edit g c)
