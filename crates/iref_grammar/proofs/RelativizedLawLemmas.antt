-- The lemmas that are laws of the shortest reference, for the check of `relativized_laws`.
use Rattle.iref_grammar.proofs.{ChosenLemmas.{relativized-chosen}, ExactLemmas.{relativized-exact}}
use Rattle.iref_grammar.proofs.TestedLemmas.{relativized-tested}
use Rattle.iref_grammar.proofs.CoveredLemmas.{relativized-some, relativized-none, relativized-shortest}
use Rattle.iref_grammar.proofs.ReadableAnswerLemmas.{relativized-readable}
use Rattle.iref_grammar.proofs.TextLawLemmas.{relativized-read_back, relativized-read, relativized-leads}
use Rattle.iref_grammar.proofs.TextLawLemmas.{relativized-none_text, relativized-shortest_text}

pub ruleset answers = (relativized-chosen, relativized-exact, relativized-tested, relativized-readable, relativized-leads)

pub ruleset covered = (relativized-some, relativized-none, relativized-shortest)

pub ruleset texts = (relativized-read_back, relativized-read, relativized-none_text, relativized-shortest_text)

pub ruleset laws = (answers, covered, texts)
