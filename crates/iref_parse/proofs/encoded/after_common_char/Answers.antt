use Rattle.std.proofs.{Common.{arith, subst, sym}, lemmas.List.{take_rest}}
use Rattle.iref_parse.specs.Encoded.{BeginsCommon}
use Rattle.iref_parse.proofs.CommonLemmas.{common_of_two, common_of_three}
use Rattle.iref_parse.proofs.encoded.after_common_char.Goals as goal

pub returns-then-text-lt224 : goal.returns-then-text-lt224
returns-then-text-lt224 c = subst (BeginsCommon c.args.text.now) (sym (take_rest c.args.text.now 2)) ((common_of_two c.args.text.now c.requires.utf8 c.requires.common (omega arith)).1)

pub returns-else-text-lt224 : goal.returns-else-text-lt224
returns-else-text-lt224 c = subst (BeginsCommon c.args.text.now) (sym (take_rest c.args.text.now 3)) ((common_of_three c.args.text.now c.requires.utf8 c.requires.common (omega arith)).1)
