use Rattle.std.proofs.Common.{◌+◌, ◌-◌, drop, length, length-drop, length-take-le, map, arith}
use Rattle.iref_reference.specs.References.{reference_buf_value}
use Rattle.iref.specs.{EditAnswers.{edited_in}, EditSteps.{edit_step}}
use Rattle.iref.proofs.{EditListLemmas.{none_done, all_done}, EditRunLemmas.{done_behind, stops_behind}}
use Rattle.iref.proofs.edits.lists.apply_list.Goals as goal

pub loop-done-init : goal.loop-done-init
loop-done-init g c = record { within = omega arith; done = none_done (edited_in g.R.HeldRule.allows_scheme) (map edit_step c.args.edits.now) (reference_buf_value c.args.reference.now) }

pub returns-in-Some : goal.returns-in-Some
returns-in-Some g c =
    stops_behind (edited_in g.R.HeldRule.allows_scheme) edit_step c.args.edits.now c.loop-done.done (reference_buf_value c.args.reference.now) (reference_buf_value c.loop-done.reference) (reference_buf_value c.apply_each-run.new.reference)
    c.loop-done.invariant.done c.loop-done.invariant.within c.apply_each-run.result.done c.in-Some.fault (rw c.in-Some.is at c.apply_each-run.ensures.fault)

pub loop-done-preserved-then-done-edits : goal.loop-done-preserved-then-done-edits
loop-done-preserved-then-done-edits g c =
    let step = edited_in g.R.HeldRule.allows_scheme in
    let edits = c.args.edits.now in
    let old = reference_buf_value c.args.reference.now in
    let mid = reference_buf_value c.apply_each-run.new.reference in
    let start = c.loop-done.done in
    let n = c.apply_each-run.result.done in
    let d = start + n in
    let part = d + c.copied_len-len.result - d in
    let behind = length-drop start edits in
    let run = length-take-le (length edits - start) (drop start edits) (omega arith) in
    let first = done_behind step edit_step edits start old (reference_buf_value c.loop-done.reference) mid c.loop-done.invariant.done (length edits - start) n (omega arith) c.apply_each-run.ensures.done in
    let left = length-drop d edits in
    let asked = length-take-le (length edits - d) (drop d edits) (omega arith) in
    let size = length-take-le part (drop d edits) (omega arith) in
    record {
      within = omega arith;
      done = done_behind step edit_step edits d old mid (reference_buf_value c.apply_on_copy-copied.new.reference) first part c.apply_on_copy-copied.result (omega arith) c.apply_on_copy-copied.ensures.done;
    }

pub loop-done-preserved : goal.loop-done-preserved
loop-done-preserved g c =
    let edits = c.args.edits.now in
    let start = c.loop-done.done in
    let behind = length-drop start edits in
    let run = length-take-le (length edits - start) (drop start edits) (omega arith) in
    record {
      within = omega arith;
      done = done_behind (edited_in g.R.HeldRule.allows_scheme) edit_step edits start (reference_buf_value c.args.reference.now) (reference_buf_value c.loop-done.reference) (reference_buf_value c.apply_each-run.new.reference)
          c.loop-done.invariant.done (length edits - start) c.apply_each-run.result.done (omega arith) c.apply_each-run.ensures.done;
    }

pub returns : goal.returns
returns g c = all_done (edited_in g.R.HeldRule.allows_scheme) edit_step c.args.edits.now c.loop-done.done (reference_buf_value c.args.reference.now) (reference_buf_value c.loop-done.reference) c.loop-done-test.false c.loop-done.invariant.done
