-- The parts of a canonical text or of one that is hashed, from the parts of a reference's text.
use Rattle.std.specs.Prelude.{Bool, Option, option_map}
use Rattle.percent_encoding.specs.Percent.{percent_decode}
use Rattle.iref_grammar.specs.{Authority.{read_authority, spell_authority}, Characters.{uri_chars}}
use Rattle.iref_grammar.specs.{Grammar.{is_query_char}, Rules.{Text}}
use Rattle.iref_grammar.specs.AuthorityKey.{authority_key}
use Rattle.iref_canonical.specs.Canonical.{encoded, spelled_authority, stands}

-- a query or a fragment, of which the same characters stand
abbrev pub encoded_query : Bool → Option Text → Option Text
encoded_query raw part = option_map (encoded (stands raw (is_query_char uri_chars))) (option_map percent_decode part)

-- an authority
abbrev pub encoded_authority : Bool → Option Text → Option Text
encoded_authority raw part = option_map (λ text. spell_authority (spelled_authority raw (authority_key (read_authority text)))) part
