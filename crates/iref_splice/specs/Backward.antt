-- What takes a text from its end, piece by piece.
use Rattle.std.specs.Prelude.{ℕ, ◌+◌, ◌-◌, ◌^◌, Bool, false, Option, Some, None, length, take, drop, min, max, bytes_eq, if◌then◌else◌}
use Rattle.iref_grammar.specs.{Rules.{Text}, Texts.{is_empty}}

-- the greatest number that is counted
abbrev pub most : ℕ
most = 2 ^ 64 - 1

-- a count and the length of a piece, or the greatest number
abbrev pub counted_after : ℕ → Text → ℕ
counted_after n piece = max n (min (n + length piece) most)

-- what stands before the piece that ends the text
abbrev pub before_end : Text → Text → Option Text
before_end piece text =
    if bytes_eq (drop (length text - length piece) text) piece then Some (take (length text - length piece) text) else None

-- what is left of a text, and nothing where the piece does not end it
abbrev pub compared_after : Option Text → Text → Option Text
compared_after None piece = None
compared_after (Some text) piece = before_end piece text

-- all was compared, and nothing is left
abbrev pub is_all : Option Text → Bool
is_all None = false
is_all (Some text) = is_empty text
