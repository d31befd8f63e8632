use Rattle.std.proofs.Common.{subst}
use Rattle.std.specs.Option.{option_copied}
use Rattle.iref.specs.EditSteps.{edit_step}
use Rattle.iref_tool.specs.Replies.{ReadsWord}
use Rattle.iref_tool.proofs.EditWordLemmas.{named_of}
use Rattle.iref_tool.proofs.edits.read_edit.Goals as goal

pub returns : goal.returns
returns c =
    subst (λ read. ReadsWord edit_step read c.edit.result)
    (named_of c.args.word.now c.new.result.word.now c.new.result.name.now (option_copied c.new.result.value) c.new.ensures.word c.new.ensures.name c.new.ensures.value)
    c.edit.ensures
