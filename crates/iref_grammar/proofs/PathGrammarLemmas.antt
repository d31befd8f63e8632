-- Texts that are in the rules of segments and paths.
use Rattle.std.proofs.{Common.{arith, ◌≡◌, true, [], ◌∷◌, ◌++◌, refl, codes}, lemmas.Grind.{common_steps}}
use Rattle.std.specs.{List.{list_all}, Str.{is_utf8, chars}, Char.{encode_utf8}}
use Rattle.iref_grammar.specs.{Characters.{CharTests, AreAboveAscii}, Rules.{Text}}
use Rattle.iref_grammar.specs.{Grammar.{slash, is_path_char, is_user_info_char, is_reg_name_char}, Texts.{pieces_at}}
use Rattle.iref_grammar.specs.{Tests.{owed_after, is_segment, is_path}, PathValue.{PathValue, read_path}}
use Rattle.iref_grammar.proofs.{PathTestLemmas.{is_path-segments}, EmptyLemmas.{is_segment_empty}}
use Rattle.iref_grammar.proofs.PieceLemmas.{pieces-append}

pub is_segment-dot : (set : CharTests) → is_segment set (codes ".") ≡ true
unfolding is_segment is_utf8 chars encode_utf8 owed_after is_path_char is_user_info_char is_reg_name_char
is_segment-dot set = refl

pub is_segment-dot_dot : (set : CharTests) → is_segment set (codes "..") ≡ true
unfolding is_segment is_utf8 chars encode_utf8 owed_after is_path_char is_user_info_char is_reg_name_char
is_segment-dot_dot set = refl

pub is_path_empty : (set : CharTests) → is_path set [] ≡ true
unfolding is_path is_utf8 chars
is_path_empty set = refl

pub is_path-root : (set : CharTests) → is_path set (codes "/") ≡ true
unfolding is_path is_utf8 chars encode_utf8 owed_after is_path_char is_user_info_char is_reg_name_char
is_path-root set = grind arith

-- the segments of a path are segments
pub segments_of_path : (set : CharTests) → AreAboveAscii set → (text : Text) (p : PathValue) → read_path text ≡ p → is_path set text ≡ true → list_all (is_segment set) p.segments ≡ true
segments_of_path set above text p e h = grind (arith, is_path-segments)

-- and exactly such texts are paths
pub is_path-pieces : (set : CharTests) → AreAboveAscii set → (text : Text) → is_path set text ≡ list_all (is_segment set) (pieces_at slash text)
unfolding read_path
is_path-pieces set above text = grind (arith, is_path-segments, is_segment_empty)

-- a path is cut at a slash into paths
pub path_parts : (set : CharTests) → AreAboveAscii set → (front back : Text) → is_path set (front ++ slash ∷ back) ≡ true → (is_path set front ≡ true) × (is_path set back ≡ true)
path_parts set above front back h = grind (arith, common_steps, is_path-pieces, pieces-append)

pub path_joined : (set : CharTests) → AreAboveAscii set → (front back : Text) → is_path set front ≡ true → is_path set back ≡ true → is_path set (front ++ slash ∷ back) ≡ true
path_joined set above front back h k = grind (arith, common_steps, is_path-pieces, pieces-append)

pub ruleset short_segments = (is_segment_empty, is_segment-dot, is_segment-dot_dot)

pub ruleset empty_paths = (is_path_empty, is_path-root)

pub is_path-guard : (set : CharTests) → AreAboveAscii set → is_path set (codes "/./") ≡ true
is_path-guard set above = grind (arith, common_steps, is_path-pieces, is_segment_empty, is_segment-dot)
