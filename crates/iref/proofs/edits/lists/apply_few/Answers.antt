use Rattle.std.proofs.Common.{map}
use Rattle.iref_reference.specs.References.{reference_buf_text, reference_buf_value}
use Rattle.iref.specs.{EditAnswers.{edited_in}, EditSteps.{edit_step}}
use Rattle.iref.proofs.EditListLemmas.{all_done, none_done, done_at, stops_at}
use Rattle.iref.proofs.edits.lists.apply_few.Goals as goal

pub loop-i-init : goal.loop-i-init
loop-i-init g c = none_done (edited_in g.R.HeldRule.allows_scheme) (map edit_step c.args.edits.now) (reference_buf_value c.args.reference.now)

pub returns-in-Err : goal.returns-in-Err
returns-in-Err g c =
    stops_at (edited_in g.R.HeldRule.allows_scheme) edit_step c.args.edits.now c.loop-i.i c.index-edits-i.result (reference_buf_value c.args.reference.now) (reference_buf_text c.loop-i.reference) (reference_buf_text c.apply.new.reference)
    c.loop-i-test.true c.index-edits-i.is c.loop-i.invariant c.in-Err.fault (rw c.in-Err.is at c.apply.ensures)

pub loop-i-preserved : goal.loop-i-preserved
loop-i-preserved g c =
    done_at (edited_in g.R.HeldRule.allows_scheme) edit_step c.args.edits.now c.loop-i.i c.index-edits-i.result (reference_buf_value c.args.reference.now) (reference_buf_text c.loop-i.reference) (reference_buf_text c.apply.new.reference)
    c.loop-i-test.true c.index-edits-i.is c.loop-i.invariant (rw c.in_default.is at c.apply.ensures)

pub returns : goal.returns
returns g c = all_done (edited_in g.R.HeldRule.allows_scheme) edit_step c.args.edits.now c.loop-i.i (reference_buf_value c.args.reference.now) (reference_buf_value c.loop-i.reference) c.loop-i-test.false c.loop-i.invariant
