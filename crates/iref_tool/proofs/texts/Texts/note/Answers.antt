use Rattle.std.proofs.Common.{rules, refl, sym, ◌∙◌, ◌≡◌}
use Rattle.iref_batch.specs.StdStreams.{inner_of}
use Rattle.iref_tool.specs.Notes.{found_of}
use Rattle.iref_tool.proofs.JobRunLemmas.{not_said_kept, not_said_written, said_gathered, said_printed, when_ok}
use Rattle.iref_tool.proofs.texts.Texts.note.Goals as goal

pub returns-in_ok-print-clause-said : goal.returns-in_ok-print-clause-said
returns-in_ok-print-clause-said g c =
    let old = c.args.self.now in
    let kept : c.push_note.new.notes.items ≡ old.answers.items = search rules in
    said_printed old.reports old.file.now old.number c.args.line.now c.args.fault c.said_of-fault.result.0 (found_of c.said_of-fault.result.1) c.said_of-fault.ensures.fault c.said_of-fault.ensures.found _ _ old.answers.items _ (g.W.Write.contents (inner_of c.flush.new.self.out))
    c.if-self.true (rw (← kept) c.in_ok-flush.ensures.written) c.in_ok-flush.ensures.settled c.in_ok-print.ensures.ok

pub returns-in_ok-flush-2-clause-said : goal.returns-in_ok-flush-2-clause-said
returns-in_ok-flush-2-clause-said g c =
    let old = c.args.self.now in
    not_said_written old.reports old.file.now old.number c.args.line.now c.args.fault c.said_of-fault.result.0 (found_of c.said_of-fault.result.1) c.said_of-fault.ensures.fault c.said_of-fault.ensures.found _ _ old.answers.items _
    c.if-self.false c.in_ok-flush-2.ensures.settled c.in_ok-flush-2.ensures.written

pub returns-else-is_err-clause-said : goal.returns-else-is_err-clause-said
returns-else-is_err-clause-said g c =
    let old = c.args.self.now in
    said_gathered old.reports old.file.now old.number c.args.line.now c.args.fault c.said_of-fault.result.0 (found_of c.said_of-fault.result.1) c.said_of-fault.ensures.fault c.said_of-fault.ensures.found _ _ old.answers.items _
    c.if-self.true (when_ok c.push_note.result (sym c.is_err.ensures.value ∙ c.if-is_err.false) c.push_note.ensures.ok) refl

pub returns-else-is_err-2-clause-said : goal.returns-else-is_err-2-clause-said
returns-else-is_err-2-clause-said g c =
    let old = c.args.self.now in
    not_said_kept old.reports old.file.now old.number c.args.line.now c.args.fault c.said_of-fault.result.0 (found_of c.said_of-fault.result.1) c.said_of-fault.ensures.fault c.said_of-fault.ensures.found _ _ old.answers.items _
    c.if-self.false refl refl
