use Rattle.std.proofs.Common.{◌+◌, ◌<◌, arith, length, map, refl, rules, subst, sym}
use Rattle.std.specs.Str.Iter.{lines_rest}
use Rattle.iref_examples.specs.WrongLines.{line_and_fault}
use Rattle.iref_examples.proofs.WrongLineLemmas.{AreTold, all_told, none_told, right_line, wrong_line}
use Rattle.iref_examples.proofs.wrong_lines.wrong_lines.Goals as goal

pub loop-line-init : goal.loop-line-init
loop-line-init c = (
  subst (λ found. AreTold c.args.text.now (map line_and_fault found) 0 c.into_iter-line-iterator.result) (sym c.new-wrong.ensures.items)
      (none_told c.args.text.now c.into_iter-line-iterator.result (search rules)),
  omega arith,
)

pub loop-line-preserved-in-Continue-1 : goal.loop-line-preserved-in-Continue-1
loop-line-preserved-in-Continue-1 c =
    let fewer : length (lines_rest c.next.new.self) < length (lines_rest c.loop-line.line-iterator) = (c.in-Some.ensures.goes.on tt).2 in (
      wrong_line c.args.text.now c.loop-line.wrong.items c.push.new.self.items c.loop-line.number c.loop-line.line-iterator c.next.new.self c.in-Some.line
          (record { number = c.loop-line.number + 1; fault = c.in-Some-fault.fault }) c.loop-line.invariant.0 c.in-Some.ensures.steps refl c.in-Some-fault.ensures.fault c.in_ok-push.ensures.items,
      omega (arith, fewer, c.loop-line.invariant.1),
    )

pub loop-line-preserved : goal.loop-line-preserved
loop-line-preserved c =
    let fewer : length (lines_rest c.next.new.self) < length (lines_rest c.loop-line.line-iterator) = (c.in-Some.ensures.goes.on tt).2 in (
      right_line c.args.text.now (map line_and_fault c.loop-line.wrong.items) c.loop-line.number c.loop-line.line-iterator c.next.new.self c.in-Some.line
          c.loop-line.invariant.0 c.in-Some.ensures.steps c.in_default.ensures.fault,
      omega (arith, fewer, c.loop-line.invariant.1),
    )

pub returns : goal.returns
returns c =
    all_told c.args.text.now (map line_and_fault c.loop-line.wrong.items) c.loop-line.number c.loop-line.line-iterator c.next.new.self
    c.loop-line.invariant.0 c.in-None.ensures.steps
