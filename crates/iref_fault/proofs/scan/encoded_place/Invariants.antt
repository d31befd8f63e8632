use Rattle.std.proofs.Common.{◌≡◌, ◌-◌, ◌≤◌, chars, length, IsUtf8}
use Rattle.iref_fault.specs.{Places.{encoded_place, encoded_place_after}, BytePlaces.{byte_place, located}}
use Rattle.iref_parse.specs.CharRules.{allowed_by}
use Rattle.iref_fault.proofs.scan.encoded_place.Given as goal

-- the place is that of what is left of the text, behind what was read
abbrev pub invariant-loop-c : goal.invariant-loop-c
invariant-loop-c g l =
    let test = allowed_by g.C.CharSet.tests g.row.RULE in
    IsUtf8 l.rest × (length l.rest ≤ length l.text)
    × (byte_place (encoded_place test) l.text ≡ located (length l.text - length l.rest) (chars l.rest) (encoded_place_after test l.owed (chars l.rest)))

abbrev pub decreases-loop-c : goal.decreases-loop-c
decreases-loop-c g l = length l.rest
