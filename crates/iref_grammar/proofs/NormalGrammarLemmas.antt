-- The normal segments of a path are in the grammar.
use Rattle.std.proofs.{Common.{arith, ◌≡◌, true, List}, lemmas.Grind.{common_steps}}
use Rattle.std.specs.List.{list_all}
use Rattle.iref_grammar.proofs.EmptyLemmas.{is_segment_empty}
use Rattle.iref_grammar.specs.{Characters.{CharTests, AreAboveAscii}, Rules.{Text}, Tests.{is_segment, is_path}}
use Rattle.iref_grammar.specs.PathValue.{read_path}
use Rattle.iref_grammar.specs.NormalList.{normal_segments}
use Rattle.iref_grammar.proofs.StepSegmentLemmas.{TakesDots, normal-in}
use Rattle.iref_grammar.proofs.PathGrammarLemmas.{is_segment-dot, is_segment-dot_dot, segments_of_path}

pub takes_dots : (set : CharTests) → TakesDots (is_segment set)
takes_dots set = record { empty = is_segment_empty set; dot = is_segment-dot set; parent = is_segment-dot_dot set }

pub normal_in_grammar : (set : CharTests) → AreAboveAscii set → (text : Text) → is_path set text ≡ true → (list : List Text) → list ≡ normal_segments (read_path text) → list_all (is_segment set) list ≡ true
normal_in_grammar set above text h list e = grind (arith, common_steps, normal-in, takes_dots, segments_of_path)
