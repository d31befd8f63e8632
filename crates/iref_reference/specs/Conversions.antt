-- What conversions that may be refused promise: `ParsesReference` and `HasSchemeOrRefused` state those that return their input.
use Rattle.std.specs.Prelude.{◌≡◌, Option, MatchOption, Result}
use Rattle.iref_grammar.specs.{Characters.{CharTests, uri_chars}, Rules.{Text}}
use Rattle.iref_reference.specs.{declared.borrowed.Reference.{Reference}, declared.owned.ReferenceBuf.{ReferenceBuf}}
use Rattle.iref_reference.specs.References.{reference_text, reference_buf_text, ParsesReference, ParsesReferenceBuf}

-- Some with the same text exactly if that is in the rule, else None
abbrev pub SomeIfIn : {V : Type 0} → (Text → Type 0) → Text → (V → Text) → Option V → Type 0
SomeIfIn rule text text_of result = MatchOption result (¬ (rule text)) (λ v. rule text × (text_of v ≡ text))

-- Ok with the same text exactly if that is in a rule of URIs, else the error holds the reference that was to be converted
abbrev pub BecomesUri : {R C K r k c S D L s l d : _} {E : Type 0} → (CharTests → Text → Type 0) → (E → Reference R C K r k c) → Reference R C K r k c → Result (Reference S D L s l d) E → Type 0
BecomesUri rule input iri = ParsesReference (rule uri_chars) input (reference_text iri) iri

-- the same of owned values
abbrev pub OwnerBecomesUri : {R C K S D L : _} {E : Type 0} → (CharTests → Text → Type 0) → (E → ReferenceBuf R C K) → ReferenceBuf R C K → Result (ReferenceBuf S D L) E → Type 0
OwnerBecomesUri rule input iri = ParsesReferenceBuf (rule uri_chars) input (reference_buf_text iri) iri
