-- What is left of a reference after a prefix: where scheme and authority are equal, what is left of its path.
use Rattle.std.proofs.Common.{◌≡◌, Bool, true, false, ◌&&◌, arith, Option, Some, None, IsNone, option_map}
use Rattle.iref_grammar.specs.{PathValue.{PathValue}, Reference.{ReferenceValue}, Rules.{Text}}
use Rattle.iref_component.specs.{Components.{text_of}, declared.rule_text.RuleText.{RuleText}, Suffixes.{SpellsSuffix}}
use Rattle.iref_grammar.specs.{PathSuffix.{path_suffix}, ReferenceSuffix.{reference_suffix}}
use Rattle.iref_grammar.specs.Relative.{have_same_authority, have_same_scheme}
use Rattle.iref_reference.specs.ReferenceSuffixes.{SpellsReferenceSuffix}

-- what is left of the path, with the query and fragment of the whole
abbrev with_rest : ReferenceValue → PathValue → PathValue × Option Text × Option Text
with_rest r p = (p, r.query, r.fragment)

-- of what a prefix and a reference are read as, p and q
module _ (prefix r p q : ReferenceValue) (p_is : p ≡ prefix) (q_is : q ≡ r) (same : Bool) (same_is : same ≡ (have_same_scheme p q && have_same_authority p q)) where
  -- nothing is left where they differ
  pub none-left : same ≡ false → reference_suffix prefix r ≡ None
  unfolding reference_suffix
  none-left e = grind arith

  module _ (e : same ≡ true) where
    rest : reference_suffix prefix r ≡ option_map (with_rest q) (path_suffix p.path q.path)
    unfolding reference_suffix
    rest = grind arith

    -- nothing is left of the path where nothing is left of the reference
    pub none-of_path : IsNone (reference_suffix prefix r) → IsNone (path_suffix p.path q.path)
    none-of_path none = grind (arith, rest)

    -- what is left of the path, with the query and the fragment
    pub left-of_path : {A P B I a0 p0 i0 b0 T Q U J t a j u S F V K s b k v : _} (found : Option (RuleText A P B I a0 p0 i0 b0)) (query : Option (RuleText T Q U J t a j u)) (fragment : Option (RuleText S F V K s b k v)) → SpellsSuffix p.path q.path found
        → option_map text_of query ≡ q.query → option_map text_of fragment ≡ q.fragment → SpellsReferenceSuffix prefix r (option_map (λ path. (path, query, fragment)) found)
    left-of_path None query fragment spells query_is fragment_is = grind (arith, rest)
    left-of_path (Some path) query fragment spells query_is fragment_is = grind (arith, rest)
