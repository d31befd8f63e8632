use Rattle.iref_grammar.proofs.{Ipv6Lemmas.{ipv6_value-sound}, Ipv6CompleteLemmas.{ipv6_value-complete}}
use Rattle.iref_grammar.proofs.Ipv6RuleLemmas.{ipv6_number, ipv6_in_rule}
use Rattle.iref_grammar.proofs.text_laws.ipv6_numbers.Goals as goal

pub returns-clause-value : goal.returns-clause-value
returns-clause-value c = λ text n. (ipv6_value-sound text n, ipv6_value-complete text n)

pub returns-clause-rule : goal.returns-clause-rule
returns-clause-rule c = λ text. (ipv6_number text, λ z. ipv6_in_rule text z.0 z.1)
