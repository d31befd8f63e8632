-- Cuts of a text at a delimiter. The delimiters are ASCII, so they cut bytes where they cut characters.
use Rattle.std.specs.Prelude.{ℕ, Bool, true, false, not, ◌==◌, List, [], ◌∷◌, ◌++◌, length, take, drop, Option, Some, None, if◌then◌else◌, map}
use Rattle.std.specs.{Prelude.{bytes_eq, max}, List.{slice_split, before_first, position_or_len}}
use Rattle.std.specs.Char.{char_set_contains}
use Rattle.iref_grammar.specs.Rules.{Text}

-- what stands before the first of the delimiters, or all of the text
abbrev pub before : List ℕ → Text → Text
before marks text = before_first (char_set_contains marks) text

-- the first of the delimiters and what follows it, or nothing
abbrev pub from_first : List ℕ → Text → Text
from_first marks text = drop (position_or_len (char_set_contains marks) text) text

-- what follows the first character, if there is one
abbrev pub after_first_char : Text → Option Text
after_first_char [] = None
after_first_char (c ∷ cs) = Some cs

-- what follows the delimiter, if the text has it
abbrev pub after : ℕ → Text → Option Text
after mark text = after_first_char (from_first (mark ∷ []) text)

-- the part and the delimiter after it, where there is a part
abbrev pub part_then : Text → Option Text → Text
part_then mark None = []
part_then mark (Some part) = part ++ mark

-- the delimiter and the part after it, where there is a part
abbrev pub then_part : Text → Option Text → Text
then_part mark None = []
then_part mark (Some part) = mark ++ part

-- the pieces between the delimiters, of which there is one at least
abbrev pub pieces_at : ℕ → Text → List Text
pieces_at mark text = slice_split (λ c. c == mark) text

-- the text does not hold the delimiter
abbrev pub lacks : ℕ → Text → Bool
lacks mark text = not (char_set_contains text mark)

-- the text begins with front
abbrev pub begins_with : Text → Text → Bool
begins_with front text = bytes_eq front (take (length front) text)

abbrev pub is_empty : {A : Type 0} → List A → Bool
is_empty [] = true
is_empty (x ∷ xs) = false

-- the list without its last item
abbrev pub all_but_last : {A : Type 0} → List A → List A
all_but_last [] = []
all_but_last (x ∷ xs) = if is_empty xs then [] else x ∷ all_but_last xs

-- every beginning of the list, itself included
abbrev pub beginnings : {A : Type 0} → List A → List (List A)
beginnings [] = [] ∷ []
beginnings (x ∷ xs) = [] ∷ map (λ front. x ∷ front) (beginnings xs)

-- the greatest of the numbers, at least 0
abbrev pub greatest : List ℕ → ℕ
greatest [] = 0
greatest (n ∷ ns) = max n (greatest ns)
