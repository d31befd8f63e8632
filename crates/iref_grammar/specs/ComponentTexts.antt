-- The texts of the components of a reference.
use Rattle.std.specs.Prelude.{◌≡◌, true, Option, option_map}
use Rattle.iref_grammar.specs.{Characters.{CharTests}, Rules.{Text}}
use Rattle.iref_grammar.specs.Tests.{none_or, is_scheme, is_path, is_query, is_fragment}
use Rattle.iref_grammar.specs.Authority.{spell_authority, read_authority, is_authority}
use Rattle.iref_grammar.specs.{PathValue.{spell_path, read_path}, Reference.{ReferenceValue}}

pub record ComponentTexts : Type 0 where
  pub scheme : Option Text
  pub authority : Option Text
  pub path : Text
  pub query : Option Text
  pub fragment : Option Text

-- the components of a reference, each as it is spelled
abbrev pub spell_components : ReferenceValue → ComponentTexts
spell_components r = record { scheme = r.scheme; authority = option_map spell_authority r.authority; path = spell_path r.path; query = r.query; fragment = r.fragment }

-- the reference of these components
abbrev pub read_components : ComponentTexts → ReferenceValue
read_components t = record { scheme = t.scheme; authority = option_map read_authority t.authority; path = read_path t.path; query = t.query; fragment = t.fragment }

-- each text is in the rule of its component
pub record AreComponents (set : CharTests) (t : ComponentTexts) : Type 0 where
  pub scheme : none_or is_scheme t.scheme ≡ true
  pub authority : none_or (is_authority set) t.authority ≡ true
  pub path : is_path set t.path ≡ true
  pub query : none_or (is_query set) t.query ≡ true
  pub fragment : none_or (is_fragment set) t.fragment ≡ true
