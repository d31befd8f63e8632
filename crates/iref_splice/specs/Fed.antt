-- What a hasher reads of a text: pieces of 256 bytes, cut from its end and in this order, then what is left of its front, and then 255.
use Rattle.std.specs.Prelude.{◌≡◌, ℕ, ◌==◌, not, Bool, List, [], ◌∷◌, ◌++◌, length, if◌then◌else◌}
use Rattle.std.specs.{List.{concat, list_all}, Hash.{HashWrites, u8}}
use Rattle.iref_grammar.specs.Rules.{Text}

-- a byte before the piece that waits, or alone where that is full
abbrev pub next_piece : ℕ → Text → Text
next_piece b waiting = if length waiting == 256 then b ∷ [] else b ∷ waiting

-- the piece that waits is written before another byte comes, if it is full
abbrev pub full_piece : Text → HashWrites
full_piece waiting = if length waiting == 256 then waiting ∷ [] else []

-- the piece that waits after a text was put before it, from its last byte to its first
unfoldable pub waiting_after : Text → Text → Text
waiting_after waiting [] = waiting
waiting_after waiting (b ∷ bs) = next_piece b (waiting_after waiting bs)

-- the pieces that were written then
unfoldable pub written_after : Text → Text → HashWrites
written_after waiting [] = []
written_after waiting (b ∷ bs) = written_after waiting bs ++ full_piece (waiting_after waiting bs)

-- what is written of a text
unfoldable pub fed_text : Text → HashWrites
fed_text text = written_after [] text ++ waiting_after [] text ∷ u8 255

-- a text that 255 ends
abbrev pub is_unended : Text → Bool
is_unended text = list_all (λ b. not (b == 255)) text

-- What is written of a value determines it, and where it ends, whatever bytes follow: no two of these values have the same bytes.
abbrev pub IsSelfDelimiting : {T : Type 0} → (T → Type 0) → (T → HashWrites) → Type 0
IsSelfDelimiting {T} known fed = (a b : T) → known a → known b → (r s : List ℕ) → concat (fed a) ++ r ≡ concat (fed b) ++ s → (a ≡ b) × (r ≡ s)
