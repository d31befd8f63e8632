use Rattle.iref.proofs.PrefixLabelLemmas.{turtle_is_pn_prefix, label_lacks}
use Rattle.iref.proofs.prefix_laws.labels_are_those_of_the_rule.Goals as goal

pub returns : goal.returns
returns c = record { turtle = turtle_is_pn_prefix; colon = label_lacks }
