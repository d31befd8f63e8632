use Rattle.std.proofs.{Common.{arith, [], ◌++◌, length, refl, ap, ◌∙◌}, lemmas.List.{append-nil}}
use Rattle.std.proofs.lemmas.Str.{IsCharBoundary-start}
use Rattle.iref_grammar.specs.PathValue.{read_path}
use Rattle.iref_path.proofs.StepTextLemmas.{to_end}
use Rattle.iref_component.specs.PathEdits.{path_mut_context, path_mut_text}
use Rattle.iref_component.proofs.PathEditLemmas.{put_steps, splice_all}
use Rattle.iref_component.proofs.path_mut.PathMut.put.Goals as goal

pub apply-requires-clause-within : goal.apply-requires-clause-within
apply-requires-clause-within g c = grind (arith, to_end, IsCharBoundary-start)

pub returns : goal.returns
returns g c =
    let same = splice_all (path_mut_text c.args.self.now) (c.args.text.now ++ []) 0 _ refl (ap length c.text.ensures.value) ∙ append-nil _ in
    c.apply.ensures.edit _ (put_steps g.C.CharSet.tests (path_mut_context c.args.self.now) (path_mut_text c.args.self.now) _ c.args.text.now (read_path c.args.text.now) same c.requires.path c.requires.reads refl)
