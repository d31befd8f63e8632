use Rattle.std.proofs.Common.{◌-◌, ◌<◌, arith, sym, ◌∙◌}
use Rattle.iref_parse.proofs.PositionLemmas.{IsClearFront-last, IsClearFront-more, IsClearFront-step, IsClearFront-met, IsClearFront-ends}
use Rattle.iref_parse.proofs.marked.first_marked.Goals as goal

pub returns-then-not-is_clear : goal.returns-then-not-is_clear
returns-then-not-is_clear g c =
    let mark = g.M.Marks.mark c.args.marks.now in
    let n = c.args.len in
    let at = c.loop-at.at in
    let r = c.common_lanes.result in
    let found = c.common_lanes.ensures in
    let met : r < 16 = IsClearFront-met mark n at c.loop-at.invariant c.lanes-found.result r (omega arith) c.lanes-found.ensures found (sym c.is_clear.ensures ∙ c.if-not-is_clear.true) in
    let front = IsClearFront-more mark n at c.loop-at.invariant c.lanes-found.result r (omega arith) c.lanes-found.ensures found in
    record { within = front.within; clear = front.each; marked = λ _. IsClearFront-ends mark n at c.loop-at.invariant c.lanes-found.result r (omega arith) c.lanes-found.ensures found met }

pub loop-at-preserved : goal.loop-at-preserved
loop-at-preserved g c =
    IsClearFront-step (g.M.Marks.mark c.args.marks.now) c.args.len c.loop-at.at c.loop-at.invariant c.lanes-found.result (omega arith) c.lanes-found.ensures (sym c.is_clear.ensures ∙ c.if-not-is_clear.false)

pub returns : goal.returns
returns g c =
    let mark = g.M.Marks.mark c.args.marks.now in
    let n = c.args.len in
    let found = c.common_lanes-2.ensures in
    let within = found.within in
    let last = IsClearFront-last mark n c.loop-at.at c.loop-at.invariant (omega arith) (omega arith) in
    let front = IsClearFront-more mark n (n - 16) last c.lanes.result c.common_lanes-2.result (omega arith) c.lanes.ensures found in
    record {
      within = front.within;
      clear = front.each;
      marked = λ l. IsClearFront-ends mark n (n - 16) last c.lanes.result c.common_lanes-2.result (omega arith) c.lanes.ensures found (omega arith);
    }
