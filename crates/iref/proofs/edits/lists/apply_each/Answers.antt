use Rattle.std.proofs.Common.{◌≡◌, ◌+◌, true, map, take, arith}
use Rattle.iref_grammar.specs.Reference.{read_reference}
use Rattle.iref_reference.specs.References.{reference_buf_text, reference_buf_value}
use Rattle.iref.specs.{EditAnswers.{AreDone, HasNormalPath, edited_in}, EditSteps.{edit_step}}
use Rattle.iref.proofs.EditListLemmas.{none_done, done_at, stops_at}
use Rattle.iref.proofs.edits.lists.apply_each.Goals.{in-OnCopy, in-InPlace+else-moves-eq-MOVES}
use Rattle.iref.proofs.edits.lists.apply_each.Goals as goal

pub loop-i-init : goal.loop-i-init
loop-i-init g c = record { done = none_done (edited_in g.R.HeldRule.allows_scheme) (map edit_step c.args.edits.now) (reference_buf_value c.args.reference.now); moves = omega arith; normal = λ known. absurd (cc) }

pub returns-in-Err-clause-fault : goal.returns-in-Err-clause-fault
returns-in-Err-clause-fault g c =
    stops_at (edited_in g.R.HeldRule.allows_scheme) edit_step c.args.edits.now c.loop-i.i c.index-edits-i.result (reference_buf_value c.args.reference.now) (reference_buf_text c.loop-i.reference) (reference_buf_text c.apply_next.new.reference)
    c.loop-i-test.true c.index-edits-i.is c.loop-i.invariant.done c.in-Err.fault (rw c.in-Err.is at c.apply_next.ensures.edit)

pub returns-in-InPlace-clause-done : goal.returns-in-InPlace-clause-done
returns-in-InPlace-clause-done g c =
    done_at (edited_in g.R.HeldRule.allows_scheme) edit_step c.args.edits.now c.loop-i.i c.index-edits-i.result (reference_buf_value c.args.reference.now) (reference_buf_text c.loop-i.reference) (reference_buf_text c.apply_next.new.reference)
    c.loop-i-test.true c.index-edits-i.is c.loop-i.invariant.done (rw c.in_default.is at c.apply_next.ensures.edit)

pub loop-i-preserved-then-as_str-len : goal.loop-i-preserved-then-as_str-len
loop-i-preserved-then-as_str-len g c = record {
  done = done_at (edited_in g.R.HeldRule.allows_scheme) edit_step c.args.edits.now c.loop-i.i c.index-edits-i.result (reference_buf_value c.args.reference.now) (reference_buf_text c.loop-i.reference) (reference_buf_text c.apply_next.new.reference)
      c.loop-i-test.true c.index-edits-i.is c.loop-i.invariant.done (rw c.in_default.is at c.apply_next.ensures.edit);
  moves = omega (arith, c.loop-i.invariant.moves);
  normal = rw c.in_default.is at c.apply_next.ensures.normal;
}

pub loop-i-preserved : goal.loop-i-preserved
loop-i-preserved g c =
    let step = edited_in g.R.HeldRule.allows_scheme in
    let done : AreDone step (take (c.loop-i.i + 1) (map edit_step c.args.edits.now)) (reference_buf_value c.args.reference.now) (read_reference (reference_buf_text c.apply_next.new.reference)) =
    done_at step edit_step c.args.edits.now c.loop-i.i c.index-edits-i.result (reference_buf_value c.args.reference.now) (reference_buf_text c.loop-i.reference) (reference_buf_text c.apply_next.new.reference)
    c.loop-i-test.true c.index-edits-i.is c.loop-i.invariant.done (rw c.in_default.is at c.apply_next.ensures.edit) in
    let normal : c.apply_next.new.is_normal ≡ true → HasNormalPath (read_reference (reference_buf_text c.apply_next.new.reference)) = rw c.in_default.is at c.apply_next.ensures.normal in
    record {
      done = elim c.match-mode.branch [
        | in-OnCopy w ↦ rw (w.reference-is, w.reserve-full.ensures) done
        | in-InPlace+else-moves-eq-MOVES w ↦ rw w.reference-is done
      ];
      moves = omega (arith, c.loop-i.invariant.moves);
      normal = elim c.match-mode.branch [
        | in-OnCopy w ↦ rw (w.reference-is, w.reserve-full.ensures) normal
        | in-InPlace+else-moves-eq-MOVES w ↦ rw w.reference-is normal
      ];
    }
