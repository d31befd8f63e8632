use Rattle.std.proofs.{Common.{arith}, lemmas.Grind.{common_steps}, lemmas.Bool.Decides.{nat_tests}}
use Rattle.std.proofs.lemmas.Str.{lead_after_ascii}
use Rattle.iref_parse.proofs.PositionLemmas.{begins_at_mark, from_mark_in_utf8}
use Rattle.iref_parse.proofs.cut.cut.Goals as goal

pub range_from-requires : goal.range_from-requires
range_from-requires c h = grind (arith, common_steps, nat_tests, lead_after_ascii, begins_at_mark, from_mark_in_utf8)
