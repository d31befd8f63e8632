use Rattle.iref_parse.proofs.KeptLemmas.{kept_from_marks}
use Rattle.iref_parse.proofs.decoded.kept_front.Goals as goal

pub returns-else-len-lt16 : goal.returns-else-len-lt16
returns-else-len-lt16 c = kept_from_marks c.args.a.now c.args.b.now _ _ c.min-len.ensures c.first_marked.ensures
