use Rattle.std.proofs.{Common.{◌≡◌, ◌∙◌, map, take, arith}, lemmas.List.Folds.{list_all-map}}
use Rattle.iref_grammar.specs.ComponentSteps.{with_fragment, with_query}
use Rattle.iref_reference.specs.References.{reference_buf_value}
use Rattle.iref.specs.{EditAnswers.{AreDone, edited_in, keeps_query_and_fragment}, EditSteps.{edit_step}}
use Rattle.iref.proofs.{EditCopyLemmas.{done-completed, edited_in-completed}, EditListLemmas.{none_done}}
use Rattle.iref.proofs.edits.lists.apply_on_copy.Goals as goal

pub returns-then-is_empty-clause-done : goal.returns-then-is_empty-clause-done
returns-then-is_empty-clause-done g c = none_done (edited_in g.R.HeldRule.allows_scheme) (map edit_step c.args.edits.now) (reference_buf_value c.args.reference.now)

pub returns-in_default-clause-done : goal.returns-in_default-clause-done
returns-in_default-clause-done g c = none_done (edited_in g.R.HeldRule.allows_scheme) (map edit_step c.args.edits.now) (reference_buf_value c.args.reference.now)

pub returns-then-is_err-clause-done : goal.returns-then-is_err-clause-done
returns-then-is_err-clause-done g c = none_done (edited_in g.R.HeldRule.allows_scheme) (map edit_step c.args.edits.now) (reference_buf_value c.args.reference.now)

pub returns-clause-done : goal.returns-clause-done
returns-clause-done g c =
    let old = reference_buf_value c.args.reference.now in
    let step = edited_in g.R.HeldRule.allows_scheme in
    let edits = map edit_step c.args.edits.now in
    let put : reference_buf_value c.set_rest.new.front ≡ with_query old.query (with_fragment old.fragment (reference_buf_value c.apply_each-run.new.reference)) = grind (arith, c.set_rest.ensures, c.is_err.ensures, c.if-is_err.false) in
    let done : AreDone step (take c.apply_each-run.result.done edits) (reference_buf_value c.in-Ok.front) (reference_buf_value c.apply_each-run.new.reference) = c.apply_each-run.ensures.done in
    rw put (done-completed old.query old.fragment step (edited_in-completed old.query old.fragment g.R.HeldRule.allows_scheme) edits c.apply_each-run.result.done (list_all-map keeps_query_and_fragment edit_step c.args.edits.now ∙ c.requires) _ _ (rw c.in-Ok.ensures at done))
