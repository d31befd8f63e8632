use Rattle.std.proofs.Common.{◌≡◌, ◌+◌, ◌≤◌, [], length}
use denote.Shadow.{shadow}
use denote.Text.{Utf8}
use Rattle.iref_grammar.specs.NormalReading.{open_before, staying_before}
use Rattle.iref_path.specs.MergedPaths.{merged_list}
use Rattle.iref_path.specs.NormalItems.{first_or, IsReadable, names_staying, open_at_start, to_read}
use Rattle.iref_path.specs.Spelling.{each_closed}
use Rattle.iref_path.proofs.normal_items.survey_names.Given as goal

abbrev pub invariant-loop-name : goal.invariant-loop-name
invariant-loop-name l = record {
  parents : open_at_start l.left ≡ open_before (merged_list l.front l.back) 0;
  names : length (names_staying l.left) + l.names ≡ length (staying_before (merged_list l.front l.back) 0);
  size : length (each_closed (names_staying l.left)) + l.size ≡ length (each_closed (staying_before (merged_list l.front l.back) 0));
  first : first_or l.first (names_staying l.left) ≡ first_or [] (staying_before (merged_list l.front l.back) 0);
  utf8 : shadow (Utf8 l.first);
  readable : IsReadable l.left;
  fewer : to_read l.left + l.names ≤ length (merged_list l.front l.back);
}

abbrev pub decreases-loop-name : goal.decreases-loop-name
decreases-loop-name l = length (names_staying l.left)
