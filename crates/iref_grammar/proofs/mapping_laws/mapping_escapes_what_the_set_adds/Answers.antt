use Rattle.iref_grammar.proofs.KnownCharacterLemmas.{mapped-characters}
use Rattle.iref_grammar.proofs.mapping_laws.mapping_escapes_what_the_set_adds.Goals as goal

pub returns : goal.returns
returns g c = mapped-characters g.S.CharSet.tests g.met.S.CharSet.above_ascii
