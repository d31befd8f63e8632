-- What texts of a JSON-LD document stand for, by a context.
use Rattle.std.specs.Prelude.{◌≡◌, MatchOption, Bool, false, ◌++◌, Option, Some, None, Result, Ok, Err, String, codes}
use Rattle.std.specs.{Prelude.{option_and_then, option_map, if◌then◌else◌}, BTreeMap.{BTreeMap, get_by_text}}
use Rattle.iref.specs.{Characters.{iri_chars}, Grammar.{colon}}
use Rattle.iref.specs.PrefixTable.{PrefixTable, ExpandRefusal, NoColon, UnknownLabel, NotAnIri, expanded, if_iri}
use Rattle.iref.specs.References.{reference_buf_text}
use Rattle.iref_reference.specs.declared.owned.ReferenceBuf.{ReferenceBuf}
use Rattle.iref.specs.{Reference.{is_uri, is_reference}, Resolutions.{IsResolved}, Rules.{Text}}
use Rattle.iref.specs.Texts.{after, begins_with}

-- the text, if it is an IRI
abbrev pub itself : Text → Option Text
itself text = if is_uri iri_chars text then Some text else None

-- what follows the first colon begins with `//`
abbrev pub begins_with_slashes : Option Text → Bool
begins_with_slashes None = false
begins_with_slashes (Some rest) = begins_with (codes "//") rest

-- a text with a colon: a blank node is no IRI; what has `//` behind the colon is whole; else its prefix is sought
abbrev pub by_colon : PrefixTable → Text → Result Text ExpandRefusal
by_colon terms text =
    if begins_with (codes "_:") text then Err NotAnIri
    else (if begins_with_slashes (after colon text) then if_iri text else expanded text terms)

-- where no prefix is known, the text itself, or another one
abbrev pub or_else : Option Text → Option Text → Option Text
or_else None other = other
or_else (Some text) other = Some text

abbrev pub or_unknown : Result Text ExpandRefusal → Option Text → Option Text
or_unknown (Ok iri) other = Some iri
or_unknown (Err NoColon) other = other
or_unknown (Err UnknownLabel) other = other
or_unknown (Err NotAnIri) other = None

-- the text, or what stands behind this one
abbrev pub itself_or_behind : Option Text → Text → Option Text
itself_or_behind front text = or_else (itself text) (option_and_then (λ f. itself (f ++ text)) front)

-- what the terms have for a text: nothing, null, or an IRI
abbrev pub term_of : {R C K Y : _} → BTreeMap (String Y) (Option (ReferenceBuf R C K)) → Text → Option (Option Text)
term_of terms text = option_map (λ term. option_map reference_buf_text term) (get_by_text terms text)

-- the term's IRI, nothing for one that is null, or for other texts this
abbrev pub by_term : Option (Option Text) → Option Text → Option Text
by_term None other = other
by_term (Some term) other = term

-- a name of a property: a term, a compact IRI, an IRI, or what stands behind `@vocab`
abbrev pub named : Option (Option Text) → PrefixTable → Option Text → Text → Option Text
named term prefixes vocabulary text = by_term term (or_unknown (by_colon prefixes text) (itself_or_behind vocabulary text))

-- this IRI, or what the text resolves to against the base; nothing where it is no reference
abbrev pub OrResolved : Option Text → Text → Text → Option Text → Type 0
OrResolved (Some iri) base text found = found ≡ Some iri
OrResolved None base text found = MatchOption found (is_reference iri_chars text ≡ false) (λ iri. IsResolved base text iri)

-- a text of `@id`: a compact IRI, an IRI, or a reference to resolve
abbrev pub IsLocated : Result Text ExpandRefusal → Text → Text → Option Text → Type 0
IsLocated (Ok iri) base text found = found ≡ Some iri
IsLocated (Err NotAnIri) base text found = found ≡ None
IsLocated (Err NoColon) base text found = OrResolved (itself text) base text found
IsLocated (Err UnknownLabel) base text found = OrResolved (itself text) base text found

-- a type: as a name of a property, but without `@vocab` as a text of `@id`, if it is no term
abbrev pub IsTyped : Option (Option Text) → PrefixTable → Option Text → Text → Text → Option Text → Type 0
IsTyped (Some term) prefixes vocabulary base text found = found ≡ term
IsTyped None prefixes (Some front) base text found = found ≡ named None prefixes (Some front) text
IsTyped None prefixes None base text found = IsLocated (by_colon prefixes text) base text found
