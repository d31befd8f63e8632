-- Texts of IRIs, mapped to URIs (RFC 3987 section 3.1).
use Rattle.std.specs.Prelude.{◌≡◌, Bool}
use Rattle.iref_grammar.specs.{Rules.{Text}, Reference.{ReferenceValue, read_reference}}
use Rattle.iref_grammar.specs.Mapping.{mapped, mapped_reference}
use Rattle.iref_reference.specs.declared.owned.ReferenceBuf.{ReferenceBuf}
use Rattle.iref_reference.specs.References.{key_of_reference_buf, reference_buf_text}

-- the text is the mapping of an IRI, and is read as the IRI with each component mapped
abbrev pub IsMapped : Text → Text → Type 0
IsMapped iri text = (text ≡ mapped iri) × (read_reference text ≡ mapped_reference (read_reference iri))

-- the owned value is the mapping of an IRI of this text and key: it has the same key, and the very text where that is in the rule
abbrev pub IsMappingOf : {R C K : _} → (Text → Type 0) → Text → ReferenceValue → ReferenceBuf R C K → Type 0
IsMappingOf rule iri key uri =
    IsMapped iri (reference_buf_text uri) × (key_of_reference_buf uri ≡ key) × (rule iri → reference_buf_text uri ≡ iri)

-- of two values with the keys of two IRIs, equality is what it is of these
abbrev pub KeepsEquality : {V W K : Type 0} → (V → K) → (W → K) → (V → V → Bool) → (W → W → Bool) → Type 0
KeepsEquality {V} {W} key_of_iri key_of_uri iris_equal uris_equal =
    (a b : V) (x y : W) → key_of_uri x ≡ key_of_iri a → key_of_uri y ≡ key_of_iri b → uris_equal x y ≡ iris_equal a b
