-- What the steps of a path write.
use Rattle.std.specs.Prelude.{[], ◌++◌, if◌then◌else◌}
use Rattle.iref_grammar.specs.{Rules.{Text}, Texts.{is_empty}, PathValue.{PathValue, spell_path}}

-- the text of a path, and this behind it where it has segments
abbrev pub closed_by : Text → PathValue → Text
closed_by close p = spell_path p ++ (if is_empty p.segments then [] else close)
