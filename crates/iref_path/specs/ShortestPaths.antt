-- The directory from which a relative path leads, and a list of `..`.
use Rattle.std.specs.{Prelude.{Bool, false, not, ◌&&◌, List, []}, List.{list_all}}
use Rattle.iref_grammar.specs.{Rules.{Text}, Texts.{all_but_last, is_empty}, PathValue.{PathValue}}
use Rattle.iref_grammar.specs.NormalList.{is_dot_dot}
use Rattle.iref_path.specs.MergedPaths.{path_after}

-- the base's path without its last segment, as it is merged with a relative path (section 5.2.3)
abbrev pub directory_of : Bool → PathValue → PathValue
directory_of has_authority base = path_after has_authority base (record { absolute = false; segments = [] })

-- the same with a flag of its own
abbrev pub directory_at : Bool → PathValue → PathValue
directory_at absolute base = record { absolute = absolute; segments = all_but_last base.segments }

-- one `..` or more, and nothing else
abbrev pub are_some_parents : List Text → Bool
are_some_parents list = not (is_empty list) && list_all is_dot_dot list
