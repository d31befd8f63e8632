-- The mapping from the back of a text to its front, and as percent-encoding.
use Rattle.std.proofs.Common.{arith, ◌≡◌, ℕ, ◌+◌, ◌*◌, ◌<◌, ◌≤◌, [], ◌∷◌, ◌++◌, length, get_or, take, drop, refl, sym, ◌∙◌, ap, take-append-drop}
use Rattle.std.proofs.lemmas.Grind.{common_steps}
use Rattle.std.proofs.lemmas.List.{take_more, drop_more, length-append, length-take-le, append-nil}
use Rattle.percent_encoding.specs.{AsciiSet.{should_percent_encode}, Percent.{encode_byte, percent_encode}}
use Rattle.iref_grammar.specs.Rules.{Text}
use Rattle.iref_grammar.specs.Mapping.{mapped_byte, mapped, count_escaped, mapped_index}
use Rattle.iref_grammar.proofs.MappedLemmas.{mapped-append, length-mapped}

mapped-cons : (b : ℕ) (bs : Text) → mapped (b ∷ bs) ≡ mapped_byte b ++ mapped bs
unfolding mapped
mapped-cons b bs = refl

pub mapped-split : (text : Text) (i : ℕ) → mapped text ≡ mapped (take i text) ++ mapped (drop i text)
mapped-split text i = ap mapped (sym (take-append-drop i text)) ∙ mapped-append (take i text) (drop i text)

pub mapped-drop : (text : Text) (i : ℕ) → i < length text → mapped (drop i text) ≡ mapped_byte (get_or text i 0) ++ mapped (drop (i + 1) text)
mapped-drop text i h = ap mapped (drop_more text i 0 h) ∙ mapped-cons (get_or text i 0) (drop (i + 1) text)

mapped-one : (b : ℕ) → mapped (b ∷ []) ≡ mapped_byte b
unfolding mapped
mapped-one b = append-nil (mapped_byte b)

pub mapped_index-next : (text : Text) (i : ℕ) → i < length text → mapped_index text (i + 1) ≡ mapped_index text i + length (mapped_byte (get_or text i 0))
mapped_index-next text i h = grind (arith, common_steps, take_more, mapped-append, get_or, length-append, mapped-one)

pub mapped_index-is : (text : Text) (i : ℕ) → i ≤ length text → mapped_index text i ≡ i + 2 * count_escaped (take i text)
mapped_index-is text i h = length-mapped (take i text) ∙ ap (λ n. n + 2 * count_escaped (take i text)) (length-take-le i text h)

-- ---- percent-encoding

encoded_byte : (b : ℕ) → encode_byte (record { mask = 0 }) b ≡ mapped_byte b
unfolding should_percent_encode
encoded_byte b = grind arith

pub mapped-encoded : (text : Text) → percent_encode (record { mask = 0 }) text ≡ mapped text
unfolding percent_encode mapped
mapped-encoded [] = refl
mapped-encoded (b ∷ bs) = λ i. encoded_byte b i ++ mapped-encoded bs i
