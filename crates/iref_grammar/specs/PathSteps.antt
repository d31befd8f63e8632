-- The edits of a path, each one step, in the context of what stands before it (RFC 3986 sections 3.3 and 5.2.4).
use Rattle.std.specs.Prelude.{Bool, false, not, ◌&&◌, ◌||◌, List, [], ◌∷◌, ◌++◌, fold, codes, if◌then◌else◌}
use Rattle.iref_grammar.specs.{declared.context.PathContext.{PathContext}, Rules.{Text}, Texts.{is_empty}}
use Rattle.iref_grammar.specs.{PathValue.{PathValue}, Contexts.{alone}}
use Rattle.iref_grammar.specs.{Guard.{guarded}, PathFunctions.{without_last}}
use Rattle.iref_grammar.specs.NormalList.{is_dot, is_dot_dot, is_name, ends_in_dots, normal}

-- on the empty list the guarded list of the segment; else the segment at the end
unfoldable pub lazy_pushed : PathContext → Text → PathValue → PathValue
lazy_pushed context s p =
    if is_empty p.segments
    then guarded context (record { absolute = p.absolute || context.has_authority; segments = s ∷ [] })
    else record p { segments = p.segments ++ s ∷ [] }

-- the last segment is `..`
abbrev pub ends_in_parent : List Text → Bool
ends_in_parent [] = false
ends_in_parent (s ∷ rest) = if is_empty rest then is_dot_dot s else ends_in_parent rest

-- without the last segment, whatever it is, `.` too; but a list that ends in `..`, and the empty relative one, get a `..` more
unfoldable pub popped : PathContext → PathValue → PathValue
popped context p =
    if ends_in_parent p.segments || is_empty p.segments && not p.absolute
    then lazy_pushed context (codes "..") p
    else (if is_empty p.segments then p else without_last p)

-- an empty segment at the end of a list that is not empty
abbrev pub closed_path : PathContext → PathValue → PathValue
closed_path context p = if is_empty p.segments then p else lazy_pushed context [] p

-- one segment followed: `.` does nothing, `..` is a pop
abbrev pub followed : PathContext → PathValue → Text → PathValue
followed context p s = if is_dot s then p else (if is_dot_dot s then popped context p else lazy_pushed context s p)

-- one segment followed, and the list closed after `.` and `..`
unfoldable pub pushed : PathContext → Text → PathValue → PathValue
pushed context s p = if is_name s then lazy_pushed context s p else closed_path context (followed context p s)

-- segments followed one by one, and the list closed after a last `.` or `..`
unfoldable pub appended : PathContext → List Text → PathValue → PathValue
appended context items p =
    if ends_in_dots items then closed_path context (fold (followed context) p items) else fold (followed context) p items

-- each segment at the end, as it is
unfoldable pub lazy_appended : PathContext → List Text → PathValue → PathValue
lazy_appended context items p = fold (λ q s. lazy_pushed context s q) p items

-- the new path, guarded
abbrev pub replaced : PathContext → PathValue → PathValue → PathValue
replaced context new p = guarded context new

-- an absolute path replaces, the segments of a relative one are appended
unfoldable pub joined : PathContext → PathValue → PathValue → PathValue
joined context new p = if new.absolute then replaced context new p else appended context new.segments p

-- the normal path, guarded
abbrev pub normalized : PathContext → PathValue → PathValue
normalized context p = guarded context (normal p)

-- no segments, the flag as it is
abbrev pub cleared : PathValue → PathValue
cleared p = record p { segments = [] }

-- `PathBuf::from_segments`: repeated push
unfoldable pub from_segments : Bool → List Text → PathValue
from_segments absolute items = fold (λ p s. pushed alone s p) (record { absolute = absolute; segments = [] }) items
