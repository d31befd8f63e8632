use Rattle.std.proofs.Common.{◌≡◌, true, Ok, rules, refl, sym, ap, ◌∙◌, is_none}
use Rattle.iref_component.specs.Components.{text_of}
use Rattle.iref_grammar.specs.Reference.{read_reference}
use Rattle.iref_grammar.specs.Edits.{drops_scheme, edited}
use Rattle.iref_reference.specs.References.{reference_buf_text}
use Rattle.iref.specs.{EditAnswers.{is_authority_edit, is_path_edit}, EditSteps.{edit_step}}
use Rattle.iref.proofs.EditListLemmas.{found_in, keeps_scheme, kept_in, refused_in}
use Rattle.iref.proofs.edits.lists.apply.Goals as goal

pub returns-in_ok-set_authority-in-SetAuthority : goal.returns-in_ok-set_authority-in-SetAuthority
unfolding edited
returns-in_ok-set_authority-in-SetAuthority g c =
    let r = read_reference (reference_buf_text c.args.reference.now) in
    kept_in g.R.HeldRule.allows_scheme (edit_step c.args.edit) r (ap (λ edit. drops_scheme (edit_step edit)) c.in-SetAuthority.is)
    (ap (λ edit. edited (edit_step edit) r) c.in-SetAuthority.is ∙ ap Ok (sym c.in_ok-set_authority-in-SetAuthority.ensures.set.1))

pub returns-in_ok-set_path-in-SetPath : goal.returns-in_ok-set_path-in-SetPath
unfolding edited
returns-in_ok-set_path-in-SetPath g c =
    let r = read_reference (reference_buf_text c.args.reference.now) in
    kept_in g.R.HeldRule.allows_scheme (edit_step c.args.edit) r (ap (λ edit. drops_scheme (edit_step edit)) c.in-SetPath.is)
    (ap (λ edit. edited (edit_step edit) r) c.in-SetPath.is ∙ ap Ok (sym c.in_ok-set_path-in-SetPath.ensures.1))

pub returns-in_ok-set_and_normalize_path-in-SetAndNormalizePath : goal.returns-in_ok-set_and_normalize_path-in-SetAndNormalizePath
unfolding edited
returns-in_ok-set_and_normalize_path-in-SetAndNormalizePath g c =
    let r = read_reference (reference_buf_text c.args.reference.now) in
    kept_in g.R.HeldRule.allows_scheme (edit_step c.args.edit) r (ap (λ edit. drops_scheme (edit_step edit)) c.in-SetAndNormalizePath.is)
    (ap (λ edit. edited (edit_step edit) r) c.in-SetAndNormalizePath.is ∙ ap Ok (sym c.in_ok-set_and_normalize_path-in-SetAndNormalizePath.ensures.set.1))

pub returns-in_ok-set_query-in-SetQuery : goal.returns-in_ok-set_query-in-SetQuery
unfolding edited
returns-in_ok-set_query-in-SetQuery g c =
    let r = read_reference (reference_buf_text c.args.reference.now) in
    kept_in g.R.HeldRule.allows_scheme (edit_step c.args.edit) r (ap (λ edit. drops_scheme (edit_step edit)) c.in-SetQuery.is)
    (ap (λ edit. edited (edit_step edit) r) c.in-SetQuery.is ∙ ap Ok (sym c.in_ok-set_query-in-SetQuery.ensures.set.1))

pub returns-in_ok-set_fragment-in-SetFragment : goal.returns-in_ok-set_fragment-in-SetFragment
unfolding edited
returns-in_ok-set_fragment-in-SetFragment g c =
    let r = read_reference (reference_buf_text c.args.reference.now) in
    kept_in g.R.HeldRule.allows_scheme (edit_step c.args.edit) r (ap (λ edit. drops_scheme (edit_step edit)) c.in-SetFragment.is)
    (ap (λ edit. edited (edit_step edit) r) c.in-SetFragment.is ∙ ap Ok (sym c.in_ok-set_fragment-in-SetFragment.ensures.set.1))

pub returns-in_ok-edit_path-in-LazyPush : goal.returns-in_ok-edit_path-in-LazyPush
returns-in_ok-edit_path-in-LazyPush g c =
    let path : is_path_edit (edit_step c.args.edit) ≡ true = search rules in
    kept_in g.R.HeldRule.allows_scheme (edit_step c.args.edit) _ (search rules) c.in_ok-edit_path-in-LazyPush.ensures.0

pub returns-then-is_none : goal.returns-then-is_none
returns-then-is_none g c =
    let part : is_authority_edit (edit_step c.args.edit) ≡ true = search rules in
    let none : is_none c.authority.result ≡ true = search rules in
    (refl, refused_in g.R.HeldRule.allows_scheme (edit_step c.args.edit) (read_reference (reference_buf_text c.args.reference.now)) text_of c.authority.result part c.authority.ensures none)

pub edit_authority-requires-clause-there : goal.edit_authority-requires-clause-there
edit_authority-requires-clause-there g c =
    found_in (read_reference (reference_buf_text c.args.reference.now)) text_of c.authority.result c.authority.ensures (search rules)

pub returns-in_ok-edit_authority-in-ReplaceAuthority : goal.returns-in_ok-edit_authority-in-ReplaceAuthority
returns-in_ok-edit_authority-in-ReplaceAuthority g c =
    let part : is_authority_edit (edit_step c.args.edit) ≡ true = search rules in
    kept_in g.R.HeldRule.allows_scheme (edit_step c.args.edit) _ (keeps_scheme (edit_step c.args.edit) part) c.in_ok-edit_authority-in-ReplaceAuthority.ensures.0
