use Rattle.std.proofs.Common.{◌∙◌, rules}
use Rattle.iref_parse.proofs.ScanLemmas.{nothing_left}
use Rattle.iref_parse.specs.CharRules.{allowed_by}
use Rattle.iref_parse.proofs.scan.is_encoded.Goals as goal

pub returns : goal.returns
returns g c = nothing_left (allowed_by g.C.CharSet.tests g.row.RULE) c.loop-rest.rest.now (search rules) ∙ c.loop-rest.invariant.1
