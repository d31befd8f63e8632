use Rattle.std.proofs.{Common.{arith}, lemmas.List.{append-nil}}
use Rattle.iref_component.specs.{AuthorityEdits.{authority_mut_text}, Components.{text_of}}
use Rattle.iref_component.proofs.AuthorityEditLemmas.{whole_within, whole_put}
use Rattle.iref_component.proofs.authority_mut.AuthorityMut.replace.Goals as goal

pub put-requires-clause-within : goal.put-requires-clause-within
put-requires-clause-within g c = grind (arith, whole_within g.C.CharSet.tests g.met.C.CharSet.above_ascii)

pub returns : goal.returns
returns g c = grind (arith, append-nil, whole_put g.C.CharSet.tests (authority_mut_text c.args.self.now) (text_of c.args.authority) c.args.authority.in_rule)
