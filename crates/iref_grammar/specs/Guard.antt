-- The segment `.` that keeps a path from being read as something else (RFC 3986 sections 3.3 and 4.2).
use Rattle.std.specs.Prelude.{not, ◌&&◌, ◌||◌, ◌∷◌, codes, if◌then◌else◌}
use Rattle.iref_grammar.specs.{declared.context.PathContext.{PathContext}, Texts.{is_empty}}
use Rattle.iref_grammar.specs.{PathValue.{PathValue, shows_its_list}, Contexts.{reads_as_path}}

abbrev pub with_dot : PathValue → PathValue
with_dot p = record p { segments = codes "." ∷ p.segments }

-- after an authority a list that is not empty becomes absolute
abbrev pub made_absolute : PathContext → PathValue → PathValue
made_absolute context p = record p { absolute = p.absolute || context.has_authority && not (is_empty p.segments) }

abbrev pub dot_where_needed : PathContext → PathValue → PathValue
dot_where_needed context p = if reads_as_path context p then p else with_dot p

unfoldable pub guarded : PathContext → PathValue → PathValue
guarded context p = dot_where_needed context (made_absolute context p)

-- the same for the list alone, wherever the path stands
unfoldable pub guarded_list : PathValue → PathValue
guarded_list p = if shows_its_list p then p else with_dot p
