-- The fields of a line that are left to read.
use Rattle.std.specs.Prelude.{List, [], Option, Some, None}
use Rattle.iref.specs.{Rules.{Text}, Texts.{pieces_at}}
use Rattle.iref_batch.specs.Lines.{tab}

-- the fields of the text, if there is one
abbrev pub fields_of : Option Text → List Text
fields_of None = []
fields_of (Some text) = pieces_at tab text
