-- What callers see of paths and of their segments.
use Rattle.std.specs.Prelude.{List}
use Rattle.iref_grammar.specs.{PathValue.{PathValue, read_path}, Rules.{Text}}
use Rattle.iref_component.specs.{Components.{text_of}, declared.segments.Segments.{Segments}}
use Rattle.iref_component.specs.declared.rule_text.RuleText.{RuleText}
use Rattle.iref_path.specs.Pieces.{pieces_if_some}

-- the flag and the list that the text of a path is read as
abbrev pub path_value : {S R C K s r k c : _} → RuleText S R C K s r k c → PathValue
path_value p = read_path (text_of p)

-- the texts of the segments that are left
abbrev pub segments_left : {C : _} {c : _} → Segments C c → List Text
segments_left s = pieces_if_some s.rest
