-- Where a text is outside the grammar, and why.
use Rattle.std.specs.Prelude.{ℕ, ◌+◌, List, [], ◌∷◌, drop, Option, Some, None, option_map, chars, if◌then◌else◌}
use Rattle.std.specs.{Option.{option_or}, Str.{is_utf8}, Str.Lossy.{utf8_valid_len}}
use Rattle.iref_grammar.specs.{Characters.{CharTests}, Rules.{Text}}
use Rattle.iref_fault.specs.declared.component.Cause.{Cause}
use Rattle.iref_fault.specs.declared.component.Cause.TheVariants.{Invalid, NoScheme, NotUtf8}
use Rattle.iref_fault.specs.Places.{PartRule, component_of, place_in, bytes_before}
use Rattle.iref_fault.specs.Cut.{Piece, piece, authority_pieces, has_cut_scheme, pieces_of}

-- why; at which byte of the whole text; the character that stands there, if the text does not end there
pub record FaultValue : Type 0 where
  pub cause : Cause
  pub at : ℕ
  pub found : Option ℕ

-- the first character
abbrev pub first_char : Text → Option ℕ
first_char [] = None
first_char (c ∷ cs) = Some c

abbrev pub fault_at : Text → PartRule → ℕ → FaultValue
fault_at text rule at = record { cause = Invalid (component_of rule); at = at; found = first_char (chars (drop at text)) }

-- of bytes that are not UTF-8, and of a text that has no scheme: no character is named
abbrev pub not_utf8 : Text → FaultValue
not_utf8 bytes = record { cause = NotUtf8; at = utf8_valid_len bytes; found = None }

abbrev pub no_scheme : FaultValue
no_scheme = record { cause = NoScheme; at = 0; found = None }

-- where the piece of the whole text is outside its rule, if it is
unfoldable pub fault_of_piece : CharTests → Text → Piece → Option FaultValue
fault_of_piece set text p =
    option_map (λ place. fault_at text p.rule (p.start + bytes_before place (chars p.text))) (place_in set p.rule (chars p.text))

-- the fault of the first piece that is outside its rule
abbrev pub first_fault : CharTests → Text → List Piece → Option FaultValue
first_fault set text [] = None
first_fault set text (p ∷ ps) = option_or (fault_of_piece set text p) (first_fault set text ps)

abbrev pub fault_of_pieces : CharTests → Text → List Piece → Option FaultValue
fault_of_pieces set text ps = if is_utf8 text then first_fault set text ps else Some (not_utf8 text)

-- of a single text, in its rule
unfoldable pub fault_of_part : CharTests → PartRule → Text → Option FaultValue
fault_of_part set rule text = fault_of_pieces set text (piece rule 0 text)

-- of an authority
unfoldable pub fault_of_authority : CharTests → Text → Option FaultValue
fault_of_authority set text = fault_of_pieces set text (authority_pieces 0 text)

-- of a reference
unfoldable pub fault_of_reference : CharTests → Text → Option FaultValue
fault_of_reference set text = fault_of_pieces set text (pieces_of text)

-- of a URI, which begins with a scheme
unfoldable pub fault_of_uri : CharTests → Text → Option FaultValue
fault_of_uri set text =
    if is_utf8 text
    then (if has_cut_scheme text then first_fault set text (pieces_of text) else Some no_scheme)
    else Some (not_utf8 text)
