-- The cut of any text, right or wrong, into components (RFC 3986 appendix B), and of an authority into parts.
use Rattle.std.specs.Prelude.{ℕ, ◌+◌, Bool, ◌||◌, ◌==◌, List, [], ◌∷◌, ◌++◌, length, codes, Option, Some, None, is_some, if◌then◌else◌}
use Rattle.std.specs.Char.{char_set_contains}
use Rattle.iref_grammar.specs.Rules.{Text}
use Rattle.iref_grammar.specs.Grammar.{hash_sign, colon, question_mark, at_sign, left_bracket, right_bracket}
use Rattle.iref_grammar.specs.Texts.{before, after, begins_with, part_then, then_part}
use Rattle.iref_grammar.specs.Reference.{split_scheme, split_authority, hierarchy}
use Rattle.iref_fault.specs.Places.{PartRule, Scheme, UserInfo, Host, Port, Path, BarePath, Query, Fragment}

-- a text of its own in the whole text: its rule, how many bytes stand before it, and its bytes
pub record Piece : Type 0 where
  pub rule : PartRule
  pub start : ℕ
  pub text : Text

abbrev pub piece : PartRule → ℕ → Text → List Piece
piece rule start text = record { rule = rule; start = start; text = text } ∷ []

abbrev pub piece_if : PartRule → ℕ → Option Text → List Piece
piece_if rule start None = []
piece_if rule start (Some text) = piece rule start text

-- ---- authorities

-- of an authority's text after the user info, which begins with `[`: the host ends at the first `:` behind the last `]`, or at the end
abbrev pub bracket_host : Text → Text
bracket_host [] = []
bracket_host (c ∷ cs) =
    c ∷ (if char_set_contains cs right_bracket then bracket_host cs else (if c == right_bracket then before (colon ∷ []) cs else cs))

abbrev pub bracket_port : Text → Option Text
bracket_port [] = None
bracket_port (c ∷ cs) =
    if char_set_contains cs right_bracket then bracket_port cs else (if c == right_bracket then after colon cs else None)

-- of any text after the user info: the host, and what follows the `:` that ends it
abbrev pub cut_host : Text → Text
cut_host text = if begins_with (left_bracket ∷ []) text then bracket_host text else before (colon ∷ []) text

abbrev pub cut_port : Text → Option Text
cut_port text = if begins_with (left_bracket ∷ []) text then bracket_port text else after colon text

abbrev pub host_pieces : ℕ → Text → List Piece
host_pieces start text = piece Host start (cut_host text) ++ piece_if Port (start + length (cut_host text) + 1) (cut_port text)

-- the first `@` ends the user info
unfoldable pub authority_pieces : ℕ → Text → List Piece
authority_pieces start text = elim (after at_sign text) [
  | None ↦ host_pieces start text
  | Some rest ↦
      let user = before (at_sign ∷ []) text in
      piece UserInfo start user ++ host_pieces (start + length user + 1) rest
]

abbrev pub authority_pieces_if : ℕ → Option Text → List Piece
authority_pieces_if start None = []
authority_pieces_if start (Some text) = authority_pieces start text

-- ---- references

-- the scheme, which is not empty, and what follows it
abbrev pub cut_scheme : Text → Option Text × Text
cut_scheme text = if begins_with (colon ∷ []) text then (None, text) else split_scheme text

abbrev pub has_cut_scheme : Text → Bool
has_cut_scheme text = is_some (cut_scheme (hierarchy text)).0

-- the components and parts in the order in which they stand
unfoldable pub pieces_of : Text → List Piece
pieces_of text =
    let front = cut_scheme (hierarchy text) in
    let middle = split_authority front.1 in
    let scheme_len = length (part_then (colon ∷ []) front.0) in
    piece_if Scheme 0 front.0
    ++ authority_pieces_if (scheme_len + 2) middle.0
    ++ piece
    (if is_some front.0 || is_some middle.0 then Path else BarePath)
    (scheme_len + length (then_part (codes "//") middle.0))
    middle.1
    ++ piece_if Query (length (hierarchy text) + 1) (after question_mark (before (hash_sign ∷ []) text))
    ++ piece_if Fragment (length (before (hash_sign ∷ []) text) + 1) (after hash_sign text)
