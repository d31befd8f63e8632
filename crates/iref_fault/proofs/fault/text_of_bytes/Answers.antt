use Rattle.std.proofs.{Common.{arith}, lemmas.Grind.{common_steps}, lemmas.Str.{IsUtf8-from_is_utf8}}
use Rattle.iref_fault.proofs.fault.text_of_bytes.Goals as goal

pub returns-in-Err : goal.returns-in-Err
returns-in-Err c = grind (arith, common_steps, IsUtf8-from_is_utf8)
