use Rattle.std.proofs.Common.{refl}
use Rattle.iref_component.proofs.TextLemmas.{same_text}
use Rattle.iref_component.proofs.rule_text.RuleTextClone.clone.Goals as goal

pub returns : goal.returns
returns g c = record { cases = same_text _ _ refl refl }
