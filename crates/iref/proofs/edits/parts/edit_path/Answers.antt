use Rattle.std.proofs.Common.{Ok, refl, rules, sym, ◌∙◌}
use Rattle.iref_component.specs.{Components.{text_of}, Paths.{path_value}}
use Rattle.iref_grammar.proofs.PathTestLemmas.{is_path-segments}
use Rattle.iref_grammar.specs.{PathSteps.{lazy_pushed, pushed, joined, popped, cleared, normalized}, Edits.{edited}}
use Rattle.iref_grammar.proofs.ReferenceStepLemmas.{lazy_pushed-readable, pushed-readable, joined-readable, popped-readable, normalized-readable, cleared-readable}
use Rattle.iref.specs.EditSteps.{edit_step}
use Rattle.iref.proofs.EditLemmas.{path_edit_done}
use Rattle.iref.proofs.edits.parts.edit_path.Goals as goal

pub returns-in-LazyPush : goal.returns-in-LazyPush
unfolding edited
returns-in-LazyPush g c =
    path_edit_done c.lazy_push.new.self g.C.CharSet.tests g.met.C.CharSet.above_ascii (edit_step c.args.edit)
    (λ context. lazy_pushed context (text_of c.in-LazyPush.segment)) (rw c.in-LazyPush.is refl) c.path_editor-path.ensures.reference
    (lazy_pushed-readable g.C.CharSet.tests _ _ c.in-LazyPush.segment.in_rule) c.path_editor-path.ensures.editor (search rules) c.lazy_push.result c.lazy_push.ensures (search rules)

pub returns-in-Push : goal.returns-in-Push
unfolding edited
returns-in-Push g c =
    path_edit_done c.push.new.self g.C.CharSet.tests g.met.C.CharSet.above_ascii (edit_step c.args.edit)
    (λ context. pushed context (text_of c.in-Push.segment)) (rw c.in-Push.is refl) c.path_editor-path.ensures.reference
    (pushed-readable g.C.CharSet.tests _ _ c.in-Push.segment.in_rule) c.path_editor-path.ensures.editor (search rules) c.push.result c.push.ensures (search rules)

pub returns-in-JoinPath : goal.returns-in-JoinPath
unfolding edited
returns-in-JoinPath g c =
    path_edit_done c.join.new.self g.C.CharSet.tests g.met.C.CharSet.above_ascii (edit_step c.args.edit)
    (λ context. joined context (path_value c.in-JoinPath.other)) (rw c.in-JoinPath.is refl) c.path_editor-path.ensures.reference
    (joined-readable g.C.CharSet.tests _ _ (sym (is_path-segments g.C.CharSet.tests g.met.C.CharSet.above_ascii (text_of c.in-JoinPath.other)) ∙ c.in-JoinPath.other.in_rule)) c.path_editor-path.ensures.editor (search rules) c.join.result c.join.ensures (search rules)

pub returns-in-Pop : goal.returns-in-Pop
unfolding edited
returns-in-Pop g c =
    path_edit_done c.pop.new.self g.C.CharSet.tests g.met.C.CharSet.above_ascii (edit_step c.args.edit)
    popped (rw c.in-Pop.is refl) c.path_editor-path.ensures.reference
    (popped-readable g.C.CharSet.tests _) c.path_editor-path.ensures.editor (search rules) c.pop.result c.pop.ensures (search rules)

pub returns-in-Normalize : goal.returns-in-Normalize
unfolding edited
returns-in-Normalize g c =
    path_edit_done c.normalize.new.self g.C.CharSet.tests g.met.C.CharSet.above_ascii (edit_step c.args.edit)
    normalized (rw c.in-Normalize.is refl) c.path_editor-path.ensures.reference
    (normalized-readable g.C.CharSet.tests _) c.path_editor-path.ensures.editor (search rules) c.normalize.result c.normalize.ensures.edit (search rules)

pub returns-in-Clear : goal.returns-in-Clear
unfolding edited
returns-in-Clear g c =
    path_edit_done {E = Unit {0}} c.clear.new.self g.C.CharSet.tests g.met.C.CharSet.above_ascii (edit_step c.args.edit)
    (λ context. cleared) (rw c.in-Clear.is refl) c.path_editor-path.ensures.reference
    (cleared-readable g.C.CharSet.tests _) c.path_editor-path.ensures.editor (search rules) (Ok tt) (record { same = c.clear.ensures.same; outcome = c.clear.ensures.value }) tt
