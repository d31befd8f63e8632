use Rattle.std.proofs.Common.{arith}
use Rattle.iref_component.specs.{Components.{text_of}, Paths.{segments_left}}
use Rattle.iref_path.proofs.SlashLemmas.{last_given}
use Rattle.iref_component.proofs.path.Path+C.last.Goals as goal

pub returns : goal.returns
returns g c = grind (arith, last_given text_of _ (segments_left c.next_back.new.self) c.next_back.result c.next_back.ensures.steps)
