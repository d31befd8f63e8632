-- What the tests of a shortest reference decide.
use Rattle.std.specs.Prelude.{Bool, false, true, Option, None, Some, bytes_eq, length, nat_lt, if◌then◌else◌}
use Rattle.iref_grammar.specs.{Rules.{Text}, Reference.{ReferenceValue}, ComponentTexts.{ComponentTexts}}
use Rattle.iref_grammar.specs.Relativized.{same_scheme_text, same_authority_text, same_path_text, same_query_text}
use Rattle.iref_reference_text.specs.{MeasuredReferences.{spell_texts}, declared.relativized.Shared.{Shared}}
use Rattle.iref_reference_text.specs.declared.relativized.Shared.TheVariants.{Nothing, Scheme, Authority, Path, Query}

-- both have the same text, or both are absent
abbrev pub same_part : Option Text → Option Text → Bool
same_part None None = true
same_part None (Some other) = false
same_part (Some part) None = false
same_part (Some part) (Some other) = bytes_eq part other

-- the last of the leading components that have the same texts
abbrev pub shared_of : ReferenceValue → ReferenceValue → Shared
shared_of target base =
    if same_scheme_text target base
    then (if same_authority_text target base
    then (if same_path_text target base then (if same_query_text target base then Query else Path) else Authority)
    else Scheme)
    else Nothing

abbrev pub shares_scheme : Shared → Bool
shares_scheme Nothing = false
shares_scheme Scheme = true
shares_scheme Authority = true
shares_scheme Path = true
shares_scheme Query = true

abbrev pub shares_authority : Shared → Bool
shares_authority Nothing = false
shares_authority Scheme = false
shares_authority Authority = true
shares_authority Path = true
shares_authority Query = true

abbrev pub shares_path : Shared → Bool
shares_path Nothing = false
shares_path Scheme = false
shares_path Authority = false
shares_path Path = true
shares_path Query = true

abbrev pub shares_query : Shared → Bool
shares_query Nothing = false
shares_query Scheme = false
shares_query Authority = false
shares_query Path = false
shares_query Query = true

-- of two as long the first
abbrev pub shorter_texts : ComponentTexts → ComponentTexts → ComponentTexts
shorter_texts first other = if nat_lt (length (spell_texts other)) (length (spell_texts first)) then other else first
