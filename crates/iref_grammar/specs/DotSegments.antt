-- `remove_dot_segments`, as a rewriting of two texts (RFC 3986 section 5.2.4).
use Rattle.std.specs.Prelude.{◌≡◌, ℕ, zero, suc, ◌||◌, [], ◌∷◌, ◌++◌, length, drop, bytes_eq, codes, if◌then◌else◌}
use Rattle.std.specs.List.{join_with_byte}
use Rattle.iref_grammar.specs.{Rules.{Text}, Grammar.{slash}}
use Rattle.iref_grammar.specs.Texts.{before, from_first, pieces_at, begins_with, all_but_last}

pub record Buffers : Type 0 where
  pub input : Text
  pub output : Text

-- the output without its last segment and the `/` before that, if there is one
abbrev pub without_last_segment : Text → Text
without_last_segment output = join_with_byte slash (all_but_last (pieces_at slash output))

-- step E: the first segment, with its leading `/` if it has one, moves to the end of the output
abbrev pub first_segment_moved : Text → Text → Buffers
first_segment_moved [] output = record { input = []; output = output }
first_segment_moved (c ∷ cs) output =
    record { input = from_first (slash ∷ []) cs; output = output ++ c ∷ before (slash ∷ []) cs }

-- one step, A to E
abbrev pub rewritten_once : Buffers → Buffers
rewritten_once b =
    if begins_with (codes "../") b.input then record b { input = drop 3 b.input }
    else (if begins_with (codes "./") b.input then record b { input = drop 2 b.input }
    else (if begins_with (codes "/./") b.input then record b { input = drop 2 b.input }
    else (if bytes_eq b.input (codes "/.") then record b { input = codes "/" }
    else (if begins_with (codes "/../") b.input then record { input = drop 3 b.input; output = without_last_segment b.output }
    else (if bytes_eq b.input (codes "/..") then record { input = codes "/"; output = without_last_segment b.output }
    else (if bytes_eq b.input (codes ".") || bytes_eq b.input (codes "..") then record b { input = [] }
    else first_segment_moved b.input b.output))))))

abbrev pub rewritten : ℕ → Buffers → Buffers
rewritten zero b = b
rewritten (suc n) b = rewritten n (rewritten_once b)

-- some number of steps uses the input up and leaves the output
abbrev pub RemovesDotSegments : Text → Text → Text → Type 0
RemovesDotSegments input output result =
    (n : ℕ) × (rewritten n (record { input = input; output = output }) ≡ record { input = []; output = result })

-- ---- the same, computed: each step shortens the input

abbrev pub dot_segments_removed : Text → Text
dot_segments_removed text = (rewritten (length text) (record { input = text; output = [] })).output
