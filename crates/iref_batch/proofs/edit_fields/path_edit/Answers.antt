use Rattle.std.proofs.Common.{refl, rules, codes}
use Rattle.std.specs.Option.{option_copied}
use Rattle.iref.specs.{Characters.{iri_chars}, Tests.{is_path, is_segment}, Edits.{LazyPush, Push, JoinPath}}
use Rattle.iref.specs.{Components.{text_of}, EditSteps.{edit_step}}
use Rattle.iref.specs.declared.edits.Edit.TheVariants as edit
use Rattle.iref_batch.specs.EditFields.{path_edit_names}
use Rattle.iref_batch.proofs.EditFieldLemmas.{made_by_name}
use Rattle.iref_batch.proofs.edit_fields.path_edit.Goals as goal

pub returns-then-is_name : goal.returns-then-is_name
returns-then-is_name c =
    made_by_name path_edit_names (codes "lazy-push") c.args.name.now (option_copied c.args.value) _ (λ v. edit.LazyPush v) text_of (is_segment iri_chars) edit_step LazyPush _
    c.needed.result c.map.result c.if-is_name.ensures refl refl (λ v. refl) (λ a. refl) (search rules) c.needed.ensures

pub returns-then-is_name-2 : goal.returns-then-is_name-2
returns-then-is_name-2 c =
    made_by_name path_edit_names (codes "push") c.args.name.now (option_copied c.args.value) _ (λ v. edit.Push v) text_of (is_segment iri_chars) edit_step Push _
    c.needed-then-is_name-2.result c.map-then-is_name-2.result c.if-is_name-2.ensures refl refl (λ v. refl) (λ a. refl) (search rules) c.needed-then-is_name-2.ensures

pub returns-then-is_name-3 : goal.returns-then-is_name-3
returns-then-is_name-3 c =
    made_by_name path_edit_names (codes "join") c.args.name.now (option_copied c.args.value) _ (λ v. edit.JoinPath v) text_of (is_path iri_chars) edit_step JoinPath _
    c.needed-then-is_name-3.result c.map-then-is_name-3.result c.if-is_name-3.ensures refl refl (λ v. refl) (λ a. refl) (search rules) c.needed-then-is_name-3.ensures
