use Rattle.std.proofs.{Common.{arith}, lemmas.Grind.{common_steps}, lemmas.Str.{lead_after_ascii}}
use Rattle.iref_parse.proofs.ScanLemmas.{chars-ascii}
use Rattle.iref_parse.proofs.scan.after_ascii.Goals as goal

pub range_from-requires : goal.range_from-requires
range_from-requires c h = (omega arith, lead_after_ascii _ 0 c.utf8.text c.requires.ascii)

pub returns-clause-chars : goal.returns-clause-chars
returns-clause-chars c = grind (arith, common_steps, chars-ascii)
