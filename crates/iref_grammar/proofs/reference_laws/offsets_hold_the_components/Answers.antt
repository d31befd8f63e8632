use Rattle.iref_grammar.proofs.RangeLemmas.{scheme_range, authority_range, path_range, query_range, fragment_range}
use Rattle.iref_grammar.proofs.reference_laws.offsets_hold_the_components.Goals as goal

pub returns : goal.returns
returns c = record { scheme = scheme_range; authority = authority_range; path = path_range; query = query_range; fragment = fragment_range }
