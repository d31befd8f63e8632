-- The normal list, read from both ends of the segments.
use Rattle.std.specs.Prelude.{◌≡◌, Option, Some, None, reverse, ℕ, ◌-◌, Bool, false, ◌&&◌, ◌==◌, List, [], ◌∷◌, ◌++◌, replicate, codes, if◌then◌else◌}
use Rattle.iref_grammar.specs.{Rules.{Text}, PathValue.{PathValue, is_one_empty}}
use Rattle.iref_grammar.specs.NormalList.{is_dot_dot, is_name, counted, ends_in_dots}

-- how many `..` are open before the segments, where this number is open behind them
abbrev pub open_before : List Text → ℕ → ℕ
open_before [] behind = behind
open_before (s ∷ rest) behind = counted (is_dot_dot s) (is_name s) (open_before rest behind)

-- the names among the segments that stay, where this number of `..` is open behind them
abbrev pub staying_before : List Text → ℕ → List Text
staying_before [] behind = []
staying_before (s ∷ rest) behind =
    if is_name s && (open_before rest behind == 0) then s ∷ staying_before rest behind else staying_before rest behind

-- the `..` that stand first in a relative list
abbrev pub leading_parents : Bool → ℕ → List Text
leading_parents absolute count = if absolute then [] else replicate count (codes "..")

-- the empty segment that closes a list of segments that ends in `.` or `..`
abbrev pub closing : Bool → List Text
closing ends = if ends then [] ∷ [] else []

-- the items of the normal list; where that is empty, one empty segment if the list ends in `.` or `..`, as of `.` and `/a/..`
abbrev pub items : PathValue → List Text
items p =
    leading_parents p.absolute (open_before p.segments 0) ++ (staying_before p.segments 0 ++ closing (ends_in_dots p.segments))

-- ---- what is left of a normal list that is read from both ends

-- the `..` that have not been given, the segments that have been read from neither end, how many `..` are open behind
-- them, and whether the empty segment that closes the list is still to be given
pub record NormalRest : Type 0 where
  pub parents : ℕ
  pub middle : List Text
  pub behind : ℕ
  pub closes : Bool

abbrev pub items_left : NormalRest → List Text
items_left rest = replicate rest.parents (codes "..") ++ (staying_before rest.middle rest.behind ++ closing rest.closes)

abbrev pub nothing_left : NormalRest
nothing_left = record { parents = 0; middle = []; behind = 0; closes = false }

-- one empty segment alone is no item
abbrev pub whole_rest : PathValue → NormalRest
whole_rest p =
    if is_one_empty (items p) then nothing_left
    else record {
      parents = if p.absolute then 0 else open_before p.segments 0;
      middle = p.segments;
      behind = 0;
      closes = ends_in_dots p.segments;
    }

-- the first name that stays, and the segments after it: each name is tried by reading all that follow
abbrev pub first_staying : List Text → ℕ → Option (Text × List Text)
first_staying [] behind = None
first_staying (s ∷ rest) behind = if is_name s && (open_before rest behind == 0) then Some (s, rest) else first_staying rest behind

-- of segments given last first: the last name that stays, and the segments before it
abbrev pub last_staying : List Text → ℕ → Option (Text × List Text)
last_staying [] behind = None
last_staying (s ∷ before) behind =
    if is_name s && (behind == 0) then Some (s, before) else last_staying before (counted (is_dot_dot s) (is_name s) behind)

abbrev pub given_closing : NormalRest → Option (Text × NormalRest)
given_closing rest = if rest.closes then Some ([], nothing_left) else None

abbrev pub after_first : NormalRest → Option (Text × List Text) → Option (Text × NormalRest)
after_first rest None = given_closing rest
after_first rest (Some found) = Some (found.0, record rest { parents = 0; middle = found.1 })

-- the first item that is left, and what is left after it
abbrev pub first_left : NormalRest → Option (Text × NormalRest)
first_left rest =
    if rest.parents == 0
    then after_first rest (first_staying rest.middle rest.behind)
    else Some (codes "..", record rest { parents = rest.parents - 1 })

abbrev pub given_parent : NormalRest → Option (Text × NormalRest)
given_parent rest =
    if rest.parents == 0 then None
    else Some (codes "..", record { parents = rest.parents - 1; middle = []; behind = 0; closes = false })

abbrev pub before_last : NormalRest → Option (Text × List Text) → Option (Text × NormalRest)
before_last rest None = given_parent rest
before_last rest (Some found) = Some (found.0, record { parents = rest.parents; middle = reverse found.1; behind = 0; closes = false })

-- the last item that is left, and what is left before it
abbrev pub last_left : NormalRest → Option (Text × NormalRest)
last_left rest =
    if rest.closes
    then Some ([], record rest { closes = false })
    else before_last rest (last_staying (reverse rest.middle) rest.behind)

-- an item and what is left: the items begin with it, or end in it; and none are left where there is none
abbrev pub GivesFirst : List Text → Option (Text × NormalRest) → Type 0
GivesFirst list None = list ≡ []
GivesFirst list (Some given) = list ≡ given.0 ∷ items_left given.1

abbrev pub GivesLast : List Text → Option (Text × NormalRest) → Type 0
GivesLast list None = list ≡ []
GivesLast list (Some given) = list ≡ items_left given.1 ++ given.0 ∷ []
