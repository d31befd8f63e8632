use Rattle.iref_grammar.proofs.PathKeyLemmas.{tie_from_decides}
use Rattle.iref_component.proofs.key.PathKeyKey.is_equal.Goals as goal

pub returns : goal.returns
returns g c = tie_from_decides _ _ c.path_texts_eq.result c.path_texts_eq.ensures
