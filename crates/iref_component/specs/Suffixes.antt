-- What is left of a path after a prefix, as an owned path.
use Rattle.std.specs.Prelude.{◌≡◌, Option, option_map}
use Rattle.iref_grammar.specs.PathValue.{PathValue, spell_path}
use Rattle.iref_grammar.specs.PathSuffix.{path_suffix}
use Rattle.iref_component.specs.{Components.{text_of}, Paths.{path_value}, declared.rule_text.RuleText.{RuleText}}

-- there is an owned path exactly where there is such a rest; its text spells that, and is read as it
pub record SpellsSuffix {S R C K s r k c : _} (prefix path : PathValue) (found : Option (RuleText S R C K s r k c)) : Type 0 where
  pub text : option_map text_of found ≡ option_map spell_path (path_suffix prefix path)
  pub read : option_map path_value found ≡ path_suffix prefix path
