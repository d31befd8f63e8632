use Rattle.std.proofs.{Common.{arith}, lemmas.Grind.{common_steps}, lemmas.Str.{lead_after_ascii}}
use Rattle.iref_parse.proofs.AuthorityLemmas.{second_slash}
use Rattle.iref_parse.proofs.split.split_authority.Goals as goal

pub range_from-requires : goal.range_from-requires
range_from-requires c h = grind (arith, common_steps, lead_after_ascii, second_slash)
