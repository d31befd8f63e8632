use Rattle.iref_grammar.proofs.Ipv4Lemmas.{ipv4_value-sound, ipv4_value-complete}
use Rattle.iref_grammar.proofs.Ipv4RuleLemmas.{ipv4_number, ipv4_in_rule}
use Rattle.iref_grammar.proofs.text_laws.ipv4_numbers.Goals as goal

pub returns-clause-value : goal.returns-clause-value
returns-clause-value c = λ text n. (ipv4_value-sound text n, ipv4_value-complete text n)

pub returns-clause-rule : goal.returns-clause-rule
returns-clause-rule c = λ text. (ipv4_number text, λ z. ipv4_in_rule text z.0 z.1)
