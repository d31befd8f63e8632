-- The canonical text of a reference, or the one that is hashed, that is measured before it is written.
use Rattle.std.specs.{Prelude.{◌∷◌, ◌++◌, [], codes, option_map}, Option.{option_copied}, Str.{str_to_ascii_lowercase}}
use Rattle.iref_grammar.specs.{Grammar.{colon, hash_sign, question_mark}, Rules.{Text}, Texts.{part_then, then_part}}
use Rattle.iref_canonical.specs.CanonicalParts.{encoded_authority, encoded_query}
use Rattle.iref_canonical.specs.KeptPaths.{IsReady, canonical_path_text}
use Rattle.iref_canonical.specs.declared.reference.SpelledReference.{SpelledReference}

-- its components, one after the other
unfoldable pub measured_spelling : SpelledReference → Text
measured_spelling r =
    part_then (colon ∷ []) (option_map str_to_ascii_lowercase (option_copied r.slices.scheme))
    ++ then_part (codes "//") (encoded_authority r.raw (option_copied r.slices.authority)) ++ canonical_path_text r.raw r.path
    ++ then_part (question_mark ∷ []) (encoded_query r.raw (option_copied r.slices.query))
    ++ then_part (hash_sign ∷ []) (encoded_query r.raw (option_copied r.slices.fragment))

-- its path can be put
abbrev pub IsMeasured : SpelledReference → Type 0
IsMeasured r = IsReady r.path
