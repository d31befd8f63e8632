-- Worked rows of the ranges that C gets of the subcomponents of an authority, computed.
use Prim.Native.String.{String}
use Rattle.std.specs.Prelude.{◌≡◌, ℕ, List, [], ◌∷◌, map, codes, Option, Some, None, option_map, refl}
use Rattle.iref.specs.{Authority.{read_authority}, Reference.{read_reference}}
use Rattle.iref_c.specs.{declared.ranges.ByteRange.{ByteRange}, declared.ranges.Ranges.{Ranges}}
use Rattle.iref_c.specs.PartRanges.{all_ranges, range_for_c}

abbrev Ends : Type 0
Ends = Option (ℕ × ℕ)

-- text; where user info, host and port begin and end
abbrev parts : List (String × Ends × Ends × Ends)
parts =
    ("//user:1@host.org:80/a//b?#", Some (2, 8), Some (9, 17), Some (18, 20))
    ∷ ("http://[::1]:/", None, Some (7, 12), Some (13, 13))
    ∷ ("//@:80", Some (2, 2), Some (3, 3), Some (4, 6))
    ∷ ("s://h", None, Some (4, 5), None)
    ∷ ("//", None, Some (2, 2), None)
    ∷ ("s:a@b:1", None, None, None)
    ∷ []

abbrev range : Ends → ByteRange
range ends = range_for_c (option_map (λ (e : ℕ × ℕ). record { start = e.0; end = e.1 }) ends)

abbrev stored : Ranges → ByteRange × ByteRange × ByteRange
stored ranges = (ranges.user_info, ranges.host, ranges.port)

parts_hold :
    map (λ row. stored (all_ranges (read_reference (codes row.0)))) parts
    ≡ map (λ row. (range row.1, range row.2, range row.3)) parts
unfolding all_ranges read_reference read_authority
parts_hold = refl
