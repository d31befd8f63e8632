use Rattle.std.proofs.Common.{◌≡◌, [], drop, map}
use Rattle.iref.specs.EditSteps.{edit_step}
use Rattle.iref_tool.specs.{EditWords.{with_edit}, Replies.{read_all}}
use Rattle.iref_tool.proofs.edits.read_edits.Given as goal

-- the words before the index were read
abbrev pub invariant-loop-word : goal.invariant-loop-word
invariant-loop-word l = read_all with_edit [] (map (λ word. word.now) l.words) ≡ read_all with_edit (map edit_step l.edits.items) (map (λ word. word.now) (drop l.word-index l.words))
