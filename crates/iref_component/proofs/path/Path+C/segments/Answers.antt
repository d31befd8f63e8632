use Rattle.iref_grammar.proofs.PathGrammarLemmas.{segments_of_path}
use Rattle.iref_component.proofs.path.Path+C.segments.Goals as goal

pub of_text-requires : goal.of_text-requires
of_text-requires g c = segments_of_path _ g.met.C.CharSet.above_ascii c.as_str.result.now _ c.split_root.ensures.path c.as_str.ensures.in_rule
