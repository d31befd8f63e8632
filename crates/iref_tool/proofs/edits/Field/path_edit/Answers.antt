use Rattle.std.proofs.Common.{[]}
use Rattle.std.specs.Option.{option_copied}
use Rattle.iref_batch.specs.EditFields.{path_edit_names}
use Rattle.iref_tool.proofs.EditWordLemmas.{passed}
use Rattle.iref_tool.proofs.edits.Field.path_edit.Goals as goal

pub returns-in_default : goal.returns-in_default
returns-in_default c =
    let d = c.in_default in
    passed path_edit_names [] c.args.self.now.word.now c.args.self.now.name.now (option_copied c.args.self.now.value) (d.not-text, (d.not-push, (d.not-join, (d.not-pop, (d.not-clear, (d.not-normalize, tt))))))
