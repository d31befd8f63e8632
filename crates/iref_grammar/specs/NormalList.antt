-- Dot segments removed, with the `..` kept that a relative path cannot cancel (RFC 3986 section 5.2.4, erratum 4547).
use Rattle.std.specs.Prelude.{ℕ, ◌+◌, ◌-◌, Bool, false, not, ◌&&◌, ◌==◌, List, [], ◌∷◌, ◌++◌, map, replicate, count_by, bytes_eq, codes}
use Rattle.std.specs.{Prelude.{if◌then◌else◌}, List.{list_any}}
use Rattle.iref_grammar.specs.{Rules.{Text}, Texts.{beginnings, greatest, is_empty}}
use Rattle.iref_grammar.specs.PathValue.{PathValue, is_one_empty}

abbrev pub is_dot : Text → Bool
is_dot s = bytes_eq s (codes ".")

abbrev pub is_dot_dot : Text → Bool
is_dot_dot s = bytes_eq s (codes "..")

-- a name is any other segment, `%2E` and the empty one among them
abbrev pub is_name : Text → Bool
is_name s = not (is_dot s) && not (is_dot_dot s)

abbrev pub count_parents : List Text → ℕ
count_parents segments = count_by is_dot_dot segments

abbrev pub count_names : List Text → ℕ
count_names segments = count_by is_name segments

-- the stretch has one `..` more than names
abbrev pub takes_one_name : List Text → Bool
takes_one_name stretch = count_parents stretch == count_names stretch + 1

-- a name stays before these segments, unless some stretch right after it takes it
abbrev pub stays_before : List Text → Bool
stays_before rest = not (list_any takes_one_name (beginnings rest))

-- the names that stay, in order
unfoldable pub staying_names : List Text → List Text
staying_names [] = []
staying_names (s ∷ rest) = if is_name s && stays_before rest then s ∷ staying_names rest else staying_names rest

-- the greatest number of `..` less names over all beginnings, at least 0
unfoldable pub excess : List Text → ℕ
excess segments = greatest (map (λ front. count_parents front - count_names front) (beginnings segments))

-- the last segment is `.` or `..`
abbrev pub ends_in_dots : List Text → Bool
ends_in_dots [] = false
ends_in_dots (s ∷ rest) = if is_empty rest then not (is_name s) else ends_in_dots rest

-- an empty segment at the end, if there is something before it
abbrev pub closed : List Text → List Text
closed list = if is_empty list then [] else list ++ [] ∷ []

-- the list of one empty segment becomes the empty list
abbrev pub without_lone_empty : List Text → List Text
without_lone_empty list = if is_one_empty list then [] else list

-- the `..` that nothing cancels, and the names that stay
abbrev pub kept_segments : PathValue → List Text
kept_segments p = (if p.absolute then [] else replicate (excess p.segments) (codes "..")) ++ staying_names p.segments

unfoldable pub normal_segments : PathValue → List Text
normal_segments p = without_lone_empty (if ends_in_dots p.segments then closed (kept_segments p) else kept_segments p)

abbrev pub normal : PathValue → PathValue
normal p = record p { segments = normal_segments p }

-- ---- the counts, read from the back

-- a `..` adds one, a name takes one away if there is one
abbrev pub counted : Bool → Bool → ℕ → ℕ
counted parent name n = if parent then n + 1 else (if name then n - 1 else n)

-- how many `..` of the list take names that stand before it
abbrev pub open_parents : List Text → ℕ
open_parents [] = 0
open_parents (s ∷ rest) = counted (is_dot_dot s) (is_name s) (open_parents rest)
