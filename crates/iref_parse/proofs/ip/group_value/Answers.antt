use Rattle.std.proofs.{Common.{arith}, lemmas.Grind.{common_steps}}
use Rattle.iref_parse.proofs.DigitLemmas.{group_value-parsed}
use Rattle.iref_parse.proofs.ip.group_value.Goals as goal

pub returns-then-is_short_hexadecimal : goal.returns-then-is_short_hexadecimal
returns-then-is_short_hexadecimal c = grind (arith, common_steps, group_value-parsed)
