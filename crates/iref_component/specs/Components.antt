-- The text of a borrowed or of an owned value.
use Rattle.iref_grammar.specs.Rules.{Text}
use Rattle.iref_component.specs.declared.rule_text.RuleText.{RuleText}

abbrev pub text_of : {S R C K s r k c : _} → RuleText S R C K s r k c → Text
text_of {s = s} v = s.bytes v.text
