-- What an error of a family holds of the error that it was made from, and where its input is wrong.
use Rattle.std.specs.{Borrow.{Bor}, Prelude.{◌≡◌, Option}}
use Rattle.iref_grammar.specs.{Characters.{uri_chars, iri_chars}, Rules.{Text}}
use Rattle.iref_fault.specs.Faults.{FaultValue, fault_of_part, fault_of_authority, fault_of_reference, fault_of_uri}
use Rattle.iref_fault.specs.declared.part.PartRule.TheVariants as part
use Rattle.iref.specs.{declared.errors.iri.IriError.{IriError}, declared.errors.uri.UriError.{UriError}}
use Rattle.iref.specs.declared.errors.iri.IriError.TheVariants as iri
use Rattle.iref.specs.declared.errors.uri.UriError.TheVariants as uri

-- the error is `variant (with_input input)`, for an input that is converted from the first error's
abbrev pub Becomes : {U J E : Type 0} → (J → E) → (U → J) → (U → Type 0) → E → Type 0
Becomes {U} variant with_input is_converted error = (input : U) × (error ≡ variant (with_input input)) × is_converted input

-- the fault of the input, with the characters of URIs
abbrev pub fault_of_uri_error : UriError (Bor Text) → Option FaultValue
fault_of_uri_error (uri.Uri e) = fault_of_uri uri_chars e.0.now
fault_of_uri_error (uri.Reference e) = fault_of_reference uri_chars e.0.now
fault_of_uri_error (uri.Scheme e) = fault_of_part uri_chars part.Scheme e.0.now
fault_of_uri_error (uri.Authority e) = fault_of_authority uri_chars e.0.now
fault_of_uri_error (uri.UserInfo e) = fault_of_part uri_chars part.UserInfo e.0.now
fault_of_uri_error (uri.Host e) = fault_of_part uri_chars part.Host e.0.now
fault_of_uri_error (uri.Port e) = fault_of_part uri_chars part.Port e.0.now
fault_of_uri_error (uri.Path e) = fault_of_part uri_chars part.Path e.0.now
fault_of_uri_error (uri.PathSegment e) = fault_of_part uri_chars part.Segment e.0.now
fault_of_uri_error (uri.Query e) = fault_of_part uri_chars part.Query e.0.now
fault_of_uri_error (uri.Fragment e) = fault_of_part uri_chars part.Fragment e.0.now

-- with those of IRIs
abbrev pub fault_of_iri_error : IriError (Bor Text) → Option FaultValue
fault_of_iri_error (iri.Iri e) = fault_of_uri iri_chars e.0.now
fault_of_iri_error (iri.Reference e) = fault_of_reference iri_chars e.0.now
fault_of_iri_error (iri.Scheme e) = fault_of_part iri_chars part.Scheme e.0.now
fault_of_iri_error (iri.Authority e) = fault_of_authority iri_chars e.0.now
fault_of_iri_error (iri.UserInfo e) = fault_of_part iri_chars part.UserInfo e.0.now
fault_of_iri_error (iri.Host e) = fault_of_part iri_chars part.Host e.0.now
fault_of_iri_error (iri.Port e) = fault_of_part iri_chars part.Port e.0.now
fault_of_iri_error (iri.Path e) = fault_of_part iri_chars part.Path e.0.now
fault_of_iri_error (iri.PathSegment e) = fault_of_part iri_chars part.Segment e.0.now
fault_of_iri_error (iri.Query e) = fault_of_part iri_chars part.Query e.0.now
fault_of_iri_error (iri.Fragment e) = fault_of_part iri_chars part.Fragment e.0.now
