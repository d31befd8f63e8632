use Rattle.iref.proofs.PrefixTextLemmas.{front_ends}
use Rattle.iref.proofs.compact.text.after_front.Goals as goal

pub split_at-requires : goal.split_at-requires
split_at-requires c = front_ends c.args.front.now c.args.text.now c.requires c.utf8.front c.utf8.text
