-- The text of the authority of a reference, and the reference with another path.
use Rattle.std.specs.{Prelude.{codes, option_map}, List.{splice}}
use Rattle.iref_grammar.specs.{Rules.{Text}, Texts.{then_part}, Authority.{spell_authority}, PathValue.{read_path}}
use Rattle.iref_grammar.specs.{Reference.{ReferenceValue, read_reference}, ComponentOffsets.{offsets_of}}

-- the authority and its delimiter
abbrev pub authority_text : Text → Text
authority_text text =
    then_part (codes "//") (option_map spell_authority (read_reference text).authority)

-- another text instead of the path's
abbrev pub with_path_text : Text → Text → Text
with_path_text path text = splice text (offsets_of text).path.start (offsets_of text).path.end path

-- the path that is read from a text
abbrev pub with_path_read : Text → ReferenceValue → ReferenceValue
with_path_read path r = record r { path = read_path path }
