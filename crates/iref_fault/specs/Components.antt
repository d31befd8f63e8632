-- The components of a reference of the grammar, in the order in which they stand, as the cut gives them.
use Rattle.std.specs.Prelude.{List, [], ◌∷◌, ◌++◌, Option, Some, None}
use Rattle.iref_grammar.specs.{Rules.{Text}, Authority.{AuthorityValue}, PathValue.{spell_path}}
use Rattle.iref_grammar.specs.Reference.{ReferenceValue}
use Rattle.iref_fault.specs.declared.component.Component.{Component}
use Rattle.iref_fault.specs.declared.component.Component.TheVariants.{Scheme, UserInfo, Host, Port, Path, Query, Fragment}
use Rattle.iref_fault.specs.{Places.{component_of}, Cut.{Piece}}

-- the component of a piece, and its text
abbrev pub component_text : Piece → Component × Text
component_text p = (component_of p.rule, p.text)

abbrev pub component_if : Component → Option Text → List (Component × Text)
component_if component None = []
component_if component (Some text) = (component, text) ∷ []

abbrev pub authority_components : AuthorityValue → List (Component × Text)
authority_components a = component_if UserInfo a.user_info ++ ((Host, a.host) ∷ []) ++ component_if Port a.port

abbrev pub authority_components_if : Option AuthorityValue → List (Component × Text)
authority_components_if None = []
authority_components_if (Some a) = authority_components a

abbrev pub components_of : ReferenceValue → List (Component × Text)
components_of r =
    component_if Scheme r.scheme ++ authority_components_if r.authority ++ ((Path, spell_path r.path) ∷ [])
    ++ component_if Query r.query ++ component_if Fragment r.fragment
