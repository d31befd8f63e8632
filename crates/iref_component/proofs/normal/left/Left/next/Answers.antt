use Rattle.iref_component.specs.NormalLeft.{left_of}
use Rattle.iref_component.proofs.NormalLeftLemmas.{first_given}
use Rattle.iref_component.proofs.normal.left.Left.next.Goals as goal

pub returns-clause-item : goal.returns-clause-item
unfolding left_of
returns-clause-item c =
    first_given c.pop.new.self.items c.in-Some.part c.first_of-first.result c.next_back.new.self c.args.self.now c.first_of-first.new.self c.next_back.result
    c.in-Some.ensures.items c.first_of-first.ensures.items c.first_of-first.ensures.first c.first_of-first.ensures.one c.next_back.ensures.item
