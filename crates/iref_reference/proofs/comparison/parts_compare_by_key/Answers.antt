use Rattle.std.proofs.{Common.{ap, rules, Some}, lemmas.Option.{same_Some}}
use Rattle.std.specs.{Str.{str_to_ascii_lowercase}, Cmp.Rules.{comparing}}
use Rattle.iref_grammar.specs.Key.{key, key_cmp}
use Rattle.iref_grammar.proofs.{TieLemmas.{texts_tie}, PartTieLemmas.{lower_case_tie, parts_tie}}
use Rattle.iref_canonical.proofs.{HashedPartLemmas.{components-delimit}, KnownKeyLemmas.{path_known}}
use Rattle.iref_component.specs.Components.{text_of}
use Rattle.iref_reference.proofs.comparison.parts_compare_by_key.Goals as goal

pub returns-clause-references : goal.returns-clause-references
unfolding key key_cmp
returns-clause-references g c = (
  (λ a b.
      parts_tie text_of text_of text_of _ _ _ (lower_case_tie text_of a.scheme b.scheme)
      a.authority b.authority (text_of a.path) (text_of b.path) a.query b.query a.fragment b.fragment),
  (λ a b. search (comparing, rules)),
  (λ v. search rules),
  components-delimit,
)

pub returns-clause-uris : goal.returns-clause-uris
unfolding key key_cmp
returns-clause-uris g c = (
  (λ a b.
      let scheme = texts_tie (str_to_ascii_lowercase (text_of a.scheme)) (str_to_ascii_lowercase (text_of b.scheme)) in
      parts_tie text_of text_of text_of _ (Some _) (Some _) (λ e. ap Some (scheme.0 e), λ e. scheme.1 (same_Some _ _ e))
      a.authority b.authority (text_of a.path) (text_of b.path) a.query b.query a.fragment b.fragment),
  (λ a b. search (comparing, rules)),
  (λ v. search rules),
  components-delimit,
)

pub returns-clause-known_references : goal.returns-clause-known_references
unfolding key
returns-clause-known_references g c = λ v. path_known g.C.CharSet.tests g.met.C.CharSet.above_ascii (text_of v.path) v.path.in_rule

pub returns-clause-known_uris : goal.returns-clause-known_uris
unfolding key
returns-clause-known_uris g c = λ v. path_known g.C.CharSet.tests g.met.C.CharSet.above_ascii (text_of v.path) v.path.in_rule
