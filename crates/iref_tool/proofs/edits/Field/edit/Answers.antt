use Rattle.std.proofs.Common.{subst, sym, take}
use Rattle.std.specs.Option.{option_copied}
use Rattle.iref.specs.EditSteps.{edit_step}
use Rattle.iref_batch.specs.{EditFields.{path_edit_names}, Lines.{edit_names}}
use Rattle.iref_tool.specs.Replies.{ReadsWord}
use Rattle.iref_tool.proofs.EditWordLemmas.{passed}
use Rattle.iref_tool.proofs.edits.Field.edit.Goals as goal

pub returns-in_default : goal.returns-in_default
returns-in_default c =
    let d = c.in_default in
    let same = passed (take 10 edit_names) path_edit_names c.args.self.now.word.now c.args.self.now.name.now (option_copied c.args.self.now.value)
    (d.not-scheme, (d.not-authority, (d.not-text, (d.not-user, (d.not-host, (d.not-port, (d.not-path, (d.not-text-2, (d.not-query, (d.not-fragment, tt)))))))))) in
    subst (λ read. ReadsWord edit_step read c.path_edit.result) (sym same) c.path_edit.ensures
