use Rattle.iref_parse.proofs.CommonLemmas.{common_char_step}
use Rattle.iref_parse.proofs.encoded.after_wide.Goals as goal

pub returns-then-begins_common : goal.returns-then-begins_common
returns-then-begins_common g c = common_char_step g.C.CharSet.tests ((c.passes_common.ensures c.if-passes_common.true).1) c.args.text.now c.after_common_char.result.now c.after_common_char.ensures
