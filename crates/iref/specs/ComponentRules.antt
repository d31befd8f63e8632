-- The components of a text, each of which is in its rule of the grammar.
use Rattle.std.specs.Prelude.{IfSome}
use Rattle.iref_grammar.specs.{Characters.{CharTests}, ComponentTexts.{ComponentTexts}}
use Rattle.iref_grammar.specs.{Grammar.{IsAuthority, IsFragment, IsPath, IsQuery, IsScheme}, Rules.{InUtf8}}

-- each component that is there is in its rule
pub record AreInRules (set : CharTests) (t : ComponentTexts) : Type 0 where
  pub scheme : IfSome t.scheme (InUtf8 IsScheme)
  pub authority : IfSome t.authority (InUtf8 (IsAuthority set))
  pub path : InUtf8 (IsPath set) t.path
  pub query : IfSome t.query (InUtf8 (IsQuery set))
  pub fragment : IfSome t.fragment (InUtf8 (IsFragment set))
