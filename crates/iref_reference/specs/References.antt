-- The texts of references, borrowed and owned, what they are read as, and what they are compared by.
use Rattle.std.specs.Prelude.{◌≡◌, ⊤, None, Result, MatchResult}
use Rattle.iref_grammar.specs.{Rules.{Text}, Reference.{ReferenceValue, read_reference}}
use Rattle.iref_grammar.specs.Key.{key}
use Rattle.iref_component.specs.{Components.{text_of}, Makers.{ParsesUtf8}}
use Rattle.iref_reference_text.specs.Steps.{IsStep, StepsOrStays}
use Rattle.iref_reference.specs.{declared.borrowed.Reference.{Reference}, declared.owned.ReferenceBuf.{ReferenceBuf}}

abbrev pub reference_text : {R C K r k c : _} → Reference R C K r k c → Text
reference_text r = text_of r.text

abbrev pub reference_value : {R C K r k c : _} → Reference R C K r k c → ReferenceValue
reference_value r = read_reference (reference_text r)

abbrev pub reference_buf_text : {R C K : _} → ReferenceBuf R C K → Text
reference_buf_text r = r.inner

abbrev pub reference_buf_value : {R C K : _} → ReferenceBuf R C K → ReferenceValue
reference_buf_value r = read_reference (reference_buf_text r)

abbrev pub key_of_reference : {R C K r k c : _} → Reference R C K r k c → ReferenceValue
key_of_reference r = key (reference_value r)

abbrev pub key_of_reference_buf : {R C K : _} → ReferenceBuf R C K → ReferenceValue
key_of_reference_buf r = key (reference_buf_value r)

-- Ok with the reference of the text exactly if that is in the rule, else the error holds the input
abbrev pub ParsesReference : {R C K r k c : _} {E I : Type 0} → (Text → Type 0) → (E → I) → Text → I → Result (Reference R C K r k c) E → Type 0
ParsesReference rule = ParsesUtf8 rule reference_text

-- the same of an owned value
abbrev pub ParsesReferenceBuf : {R C K : _} {E I : Type 0} → (Text → Type 0) → (E → I) → Text → I → Result (ReferenceBuf R C K) E → Type 0
ParsesReferenceBuf rule = ParsesUtf8 rule reference_buf_text

-- Ok with the same text, or the reference itself, exactly if it has no scheme
abbrev pub HasSchemeOrRefused : {V W E : Type 0} → (V → Text) → (W → Text) → V → (E → V) → Result W E → Type 0
HasSchemeOrRefused reference_text uri_text reference input result =
    MatchResult result (λ uri. uri_text uri ≡ reference_text reference)
    (λ error. (input error ≡ reference) × ((read_reference (reference_text reference)).scheme ≡ None))

-- the same of borrowed values
abbrev pub NarrowsToUri : {R C K r k c S D L s l d : _} {E : Type 0} → (E → Reference R C K r k c) → Reference R C K r k c → Result (Reference S D L s l d) E → Type 0
NarrowsToUri input reference result = HasSchemeOrRefused reference_text reference_text reference input result

-- and of owned values
abbrev pub OwnerNarrowsToUri : {R C K S D L : _} {E : Type 0} → (E → ReferenceBuf R C K) → ReferenceBuf R C K → Result (ReferenceBuf S D L) E → Type 0
OwnerNarrowsToUri input reference result = HasSchemeOrRefused reference_buf_text reference_buf_text reference input result

-- an edit of an owned value: at Ok it is this step of the text, and at an Err the text is as it was
abbrev pub Edits : {R C K : _} {V E : Type 0} → (ReferenceValue → ReferenceValue) → ReferenceBuf R C K → ReferenceBuf R C K → Result V E → Type 0
Edits step old new result = StepsOrStays step (reference_buf_text old) (reference_buf_text new) result

-- an owned value that takes memory: this step of the text of a borrowed one
abbrev pub StepsFrom : {R C L r k c S D K : _} {E : Type 0} → (ReferenceValue → ReferenceValue) → Reference R C L r k c → Result (ReferenceBuf S D K) E → Type 0
StepsFrom step old result = MatchResult result (λ new. IsStep step (reference_text old) (reference_buf_text new)) (λ _. ⊤)
