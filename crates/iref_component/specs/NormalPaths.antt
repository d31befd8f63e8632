-- What callers see of the normal segments of a path.
use Rattle.std.specs.Prelude.{List}
use Rattle.iref_grammar.specs.Rules.{Text}
use Rattle.iref_component.specs.{NormalLeft.{left_of}, declared.normal.NormalizedSegments.{NormalizedSegments}}

-- the texts of the normal segments that are left
abbrev pub normal_segments_left : {C : _} {c : _} → NormalizedSegments C c → List Text
normal_segments_left s = left_of s.left
