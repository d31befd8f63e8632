use Rattle.std.proofs.Common.{refl, rules, codes, option_map}
use Rattle.std.specs.Option.{option_copied}
use Rattle.iref.specs.Characters.{iri_chars}
use Rattle.iref.specs.Tests.{none_or, is_fragment, is_host, is_path, is_port, is_query, is_scheme, is_user_info}
use Rattle.iref.specs.Authority.{is_authority}
use Rattle.iref.specs.Edits.{SetScheme, SetAuthority, ReplaceAuthority, SetUserInfo, SetHost, SetPort, SetPath, SetAndNormalizePath, SetQuery, SetFragment}
use Rattle.iref.specs.{Components.{text_of}, EditSteps.{edit_step}}
use Rattle.iref_batch.specs.Lines.{edit_names}
use Rattle.iref.specs.declared.edits.Edit.TheVariants as edit
use Rattle.iref_batch.proofs.EditFieldLemmas.{made_by_name}
use Rattle.iref_batch.proofs.edit_fields.edit_of.Goals as goal

pub returns-then-is_name : goal.returns-then-is_name
returns-then-is_name c =
    made_by_name edit_names (codes "scheme") c.args.name.now (option_copied c.args.value) _ (λ v. edit.SetScheme v) (option_map text_of) (none_or is_scheme) edit_step SetScheme _
    c.optional.result c.map.result c.if-is_name.ensures refl refl (λ v. refl) (λ a. refl) (search rules) c.optional.ensures

pub returns-then-is_name-2 : goal.returns-then-is_name-2
returns-then-is_name-2 c =
    made_by_name edit_names (codes "authority") c.args.name.now (option_copied c.args.value) _ (λ v. edit.SetAuthority v) (option_map text_of) (none_or (is_authority iri_chars)) edit_step SetAuthority _
    c.optional-then-is_name-2.result c.map-then-is_name-2.result c.if-is_name-2.ensures refl refl (λ v. refl) (λ a. refl) (search rules) c.optional-then-is_name-2.ensures

pub returns-then-is_name-3 : goal.returns-then-is_name-3
returns-then-is_name-3 c =
    made_by_name edit_names (codes "replace-authority") c.args.name.now (option_copied c.args.value) _ (λ v. edit.ReplaceAuthority v) text_of (is_authority iri_chars) edit_step ReplaceAuthority _
    c.needed.result c.map-then-is_name-3.result c.if-is_name-3.ensures refl refl (λ v. refl) (λ a. refl) (search rules) c.needed.ensures

pub returns-then-is_name-4 : goal.returns-then-is_name-4
returns-then-is_name-4 c =
    made_by_name edit_names (codes "user") c.args.name.now (option_copied c.args.value) _ (λ v. edit.SetUserInfo v) (option_map text_of) (none_or (is_user_info iri_chars)) edit_step SetUserInfo _
    c.optional-then-is_name-4.result c.map-then-is_name-4.result c.if-is_name-4.ensures refl refl (λ v. refl) (λ a. refl) (search rules) c.optional-then-is_name-4.ensures

pub returns-then-is_name-5 : goal.returns-then-is_name-5
returns-then-is_name-5 c =
    made_by_name edit_names (codes "host") c.args.name.now (option_copied c.args.value) _ (λ v. edit.SetHost v) text_of (is_host iri_chars) edit_step SetHost _
    c.needed-then-is_name-5.result c.map-then-is_name-5.result c.if-is_name-5.ensures refl refl (λ v. refl) (λ a. refl) (search rules) c.needed-then-is_name-5.ensures

pub returns-then-is_name-6 : goal.returns-then-is_name-6
returns-then-is_name-6 c =
    made_by_name edit_names (codes "port") c.args.name.now (option_copied c.args.value) _ (λ v. edit.SetPort v) (option_map text_of) (none_or is_port) edit_step SetPort _
    c.optional-then-is_name-6.result c.map-then-is_name-6.result c.if-is_name-6.ensures refl refl (λ v. refl) (λ a. refl) (search rules) c.optional-then-is_name-6.ensures

pub returns-then-is_name-7 : goal.returns-then-is_name-7
returns-then-is_name-7 c =
    made_by_name edit_names (codes "path") c.args.name.now (option_copied c.args.value) _ (λ v. edit.SetPath v) text_of (is_path iri_chars) edit_step SetPath _
    c.needed-then-is_name-7.result c.map-then-is_name-7.result c.if-is_name-7.ensures refl refl (λ v. refl) (λ a. refl) (search rules) c.needed-then-is_name-7.ensures

pub returns-then-is_name-8 : goal.returns-then-is_name-8
returns-then-is_name-8 c =
    made_by_name edit_names (codes "normal-path") c.args.name.now (option_copied c.args.value) _ (λ v. edit.SetAndNormalizePath v) text_of (is_path iri_chars) edit_step SetAndNormalizePath _
    c.needed-then-is_name-8.result c.map-then-is_name-8.result c.if-is_name-8.ensures refl refl (λ v. refl) (λ a. refl) (search rules) c.needed-then-is_name-8.ensures

pub returns-then-is_name-9 : goal.returns-then-is_name-9
returns-then-is_name-9 c =
    made_by_name edit_names (codes "query") c.args.name.now (option_copied c.args.value) _ (λ v. edit.SetQuery v) (option_map text_of) (none_or (is_query iri_chars)) edit_step SetQuery _
    c.optional-then-is_name-9.result c.map-then-is_name-9.result c.if-is_name-9.ensures refl refl (λ v. refl) (λ a. refl) (search rules) c.optional-then-is_name-9.ensures

pub returns-then-is_name-10 : goal.returns-then-is_name-10
returns-then-is_name-10 c =
    made_by_name edit_names (codes "fragment") c.args.name.now (option_copied c.args.value) _ (λ v. edit.SetFragment v) (option_map text_of) (none_or (is_fragment iri_chars)) edit_step SetFragment _
    c.optional-then-is_name-10.result c.map-then-is_name-10.result c.if-is_name-10.ensures refl refl (λ v. refl) (λ a. refl) (search rules) c.optional-then-is_name-10.ensures
