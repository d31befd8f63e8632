-- The row of the table by which a reference is resolved (RFC 3986 section 5.2.2).
use Rattle.std.specs.Prelude.{Bool, true, false, ◌||◌, is_some, if◌then◌else◌}
use Rattle.iref_grammar.specs.{ComponentTexts.{ComponentTexts}, PathValue.{read_path}, Texts.{is_empty}}
use Rattle.iref_reference_text.specs.{declared.row.Row.{Row}, declared.row.Row.TheVariants.{Own, Base, Rooted, Merged}}

abbrev pub row_of : ComponentTexts → Row
row_of t =
    if is_some t.scheme || is_some t.authority then Own
    else (if is_empty t.path then Base
    else (if (read_path t.path).absolute then Rooted else Merged))

-- the reference's own path, or the merged one, stands behind the base's authority
abbrev pub has_path : Row → Bool
has_path Own = false
has_path Base = false
has_path Rooted = true
has_path Merged = true
