-- What is left of a reference after a prefix, by keys.
use Rattle.std.specs.Prelude.{◌&&◌, Option, None, if◌then◌else◌, option_map}
use Rattle.iref_grammar.specs.{Rules.{Text}, PathValue.{PathValue}, Reference.{ReferenceValue}}
use Rattle.iref_grammar.specs.{PathSuffix.{path_suffix}, Relative.{have_same_scheme, have_same_authority}}

-- where scheme and authority are equal: what is left of the path, with the query and fragment of the whole
unfoldable pub reference_suffix : ReferenceValue → ReferenceValue → Option (PathValue × Option Text × Option Text)
reference_suffix prefix r =
    if have_same_scheme prefix r && have_same_authority prefix r
    then option_map (λ p. (p, r.query, r.fragment)) (path_suffix prefix.path r.path)
    else None
