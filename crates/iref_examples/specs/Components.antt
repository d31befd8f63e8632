-- Which component of a text is the first outside its rule.
use Rattle.std.specs.{Prelude.{◌≡◌, Option, Result, Ok, Err, IfSome, IsSomeAnd, MatchResult}, Borrow.{Bor}}
use Rattle.iref.specs.{Characters.{iri_chars}, ComponentTexts.{ComponentTexts}}
use Rattle.iref.specs.{Grammar.{IsAuthority, IsFragment, IsPath, IsQuery, IsScheme}, Rules.{InUtf8, Rule, Text}}
use Rattle.iref_examples.specs.declared.validator.Component.{Component}
use Rattle.iref_examples.specs.declared.validator.Component.TheVariants.{Scheme, Authority, Path, Query, Fragment}

-- a conversion takes the text, if there is one; else the error names the component
abbrev pub IsChecked : {T E U : Type 0} → (Bor Text → Result T E → Type 0) → Component → Option (Bor Text) → Result U Component → Type 0
IsChecked {T} {E} gives component text result =
    MatchResult result (λ _. IfSome text (λ t. (value : T) × gives t (Ok value)))
    (λ refused. (refused ≡ component) × IsSomeAnd text (λ t. (error : E) × gives t (Err error)))

-- there is none, or it is in the rule
abbrev pub IsInside : Rule → Option Text → Type 0
IsInside rule text = IfSome text (InUtf8 rule)

-- there is one, and it is not in the rule
abbrev pub IsOutside : Rule → Option Text → Type 0
IsOutside rule text = IsSomeAnd text (λ t. ¬ (InUtf8 rule t))

-- this component is outside its rule, and those before it are in theirs
abbrev pub IsFirstOutside : Component → ComponentTexts → Type 0
IsFirstOutside Scheme t = IsOutside IsScheme t.scheme
IsFirstOutside Authority t = IsInside IsScheme t.scheme × IsOutside (IsAuthority iri_chars) t.authority
IsFirstOutside Path t = IsInside IsScheme t.scheme × IsInside (IsAuthority iri_chars) t.authority × (¬ (InUtf8 (IsPath iri_chars) t.path))
IsFirstOutside Query t =
    IsInside IsScheme t.scheme × IsInside (IsAuthority iri_chars) t.authority × InUtf8 (IsPath iri_chars) t.path × IsOutside (IsQuery iri_chars) t.query
IsFirstOutside Fragment t =
    IsInside IsScheme t.scheme × IsInside (IsAuthority iri_chars) t.authority × InUtf8 (IsPath iri_chars) t.path × IsInside (IsQuery iri_chars) t.query
    × IsOutside (IsFragment iri_chars) t.fragment
