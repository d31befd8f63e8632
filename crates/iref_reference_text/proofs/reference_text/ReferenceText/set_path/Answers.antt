use Rattle.std.proofs.{Common.{arith, length-append}, lemmas.List.{append-nil}}
use Rattle.iref_grammar.specs.{PathValue.{read_path}, Reference.{read_reference, context_of}}
use Rattle.iref_grammar.specs.{ComponentSteps.{with_path}, Guard.{guarded}}
use Rattle.iref_reference_text.proofs.{LengthLemmas.{context-lengths}, EditLemmas.{path_set}}
use Rattle.iref_reference_text.proofs.reference_text.ReferenceText.set_path.Goals as goal

pub step-requires-clause-leaves : goal.step-requires-clause-leaves
unfolding with_path
step-requires-clause-leaves g c =
    let set = g.C.CharSet.tests in
    let old = read_reference c.args.self.now in
    let put = c.path_range.ensures.replaced (guarded (context_of old) (read_path c.args.path.now)) in
    let step = path_set set g.met.C.CharSet.above_ascii (g.R.Rule.test set) g.R.HeldRule.allows_scheme (g.met.R.HeldRule.by_scheme set) old
    c.lengths-old.ensures.readable c.lengths-old.ensures.allowed _ c.args.path.now c.requires put in
    grind (arith, append-nil, length-append, context-lengths old, step)

pub returns : goal.returns
unfolding with_path
returns g c =
    let set = g.C.CharSet.tests in
    let old = read_reference c.args.self.now in
    let put = c.path_range.ensures.replaced (guarded (context_of old) (read_path c.args.path.now)) in
    let step = path_set set g.met.C.CharSet.above_ascii (g.R.Rule.test set) g.R.HeldRule.allows_scheme (g.met.R.HeldRule.by_scheme set) old
    c.lengths-old.ensures.readable c.lengths-old.ensures.allowed _ c.args.path.now c.requires put in
    grind (arith, append-nil, context-lengths old, put, step)
