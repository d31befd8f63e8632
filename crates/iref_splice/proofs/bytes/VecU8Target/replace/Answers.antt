use Rattle.std.proofs.Common.{ap, arith, ◌∙◌}
use Rattle.iref_splice.specs.Changes.{pieces}
use Rattle.iref_splice.proofs.PartLemmas.{part_end, part_put, part_stands}
use Rattle.iref_splice.proofs.bytes.VecU8Target.replace.Goals as goal

pub overflow_sub-result : goal.overflow_sub-result
overflow_sub-result g c =
    let s = c.requires.stands in
    let put = part_put c.args.self.now.items _ (pieces c.args.by) c.args.at.start c.args.at.end _ _ s.0 s.1 c.requires.within.start_le_end c.requires.within.end.0 c.in_ok-replace.ensures.ok in
    (part_end _ _ _ c.args.at.start c.args.at.end _ _ s.0 s.1 (omega (arith, c.len.ensures)) (omega (arith, c.len-2.ensures)) put).0

pub returns-clause-text : goal.returns-clause-text
returns-clause-text g c =
    let s = c.requires.stands in
    part_put c.args.self.now.items _ (pieces c.args.by) c.args.at.start c.args.at.end _ _ s.0 s.1 c.requires.within.start_le_end c.requires.within.end.0 c.in_ok-replace.ensures.ok

pub returns-clause-stands : goal.returns-clause-stands
returns-clause-stands g c =
    let s = c.requires.stands in
    let put = part_put c.args.self.now.items _ (pieces c.args.by) c.args.at.start c.args.at.end _ _ s.0 s.1 c.requires.within.start_le_end c.requires.within.end.0 c.in_ok-replace.ensures.ok in
    let end = (part_end _ _ _ c.args.at.start c.args.at.end _ _ s.0 s.1 (omega (arith, c.len.ensures)) (omega (arith, c.len-2.ensures)) put).1 in
    let there = part_stands _ _ _ c.args.at.start c.args.at.end _ s.0 s.1 put end in
    (there.start_le_end, there.in_bounds, ap (g.P.Part.test g.C.CharSet.tests c.args.after) there.holds ∙ c.requires.test)
