-- What is left of a reference after a prefix: its path as an owned value, and its query and fragment.
use Rattle.std.specs.Prelude.{◌≡◌, Option, option_map}
use Rattle.iref_grammar.specs.{PathValue.{PathValue, spell_path}, Reference.{ReferenceValue}, Rules.{Text}}
use Rattle.iref_component.specs.{Components.{text_of}, declared.rule_text.RuleText.{RuleText}, Paths.{path_value}}
use Rattle.iref_grammar.specs.ReferenceSuffix.{reference_suffix}

-- the path that the owned text is read as, and the texts of query and fragment
abbrev pub left_value : {A P B I a p i b T Q U J t q j u S F V K s f k v : _} → RuleText A P B I a p i b × Option (RuleText T Q U J t q j u) × Option (RuleText S F V K s f k v) → PathValue × Option Text × Option Text
left_value left = (path_value left.0, option_map text_of left.1, option_map text_of left.2)

-- something is left exactly where the reference has such a rest; the owned text spells the path, and is read as it
pub record SpellsReferenceSuffix {A P B I a p i b T Q U J t q j u S F V K s f k v : _} (prefix r : ReferenceValue) (found : Option (RuleText A P B I a p i b × Option (RuleText T Q U J t q j u) × Option (RuleText S F V K s f k v))) : Type 0 where
  pub text : option_map (λ left. text_of left.0) found ≡ option_map (λ left. spell_path left.0) (reference_suffix prefix r)
  pub read : option_map left_value found ≡ reference_suffix prefix r
