-- Resolution against a base, strict (RFC 3986 section 5.2).
use Rattle.std.specs.{Prelude.{Bool, true, not, ◌&&◌, ◌++◌, is_some, if◌then◌else◌}, Option.{option_or}}
use Rattle.iref_grammar.specs.{Texts.{is_empty, all_but_last}, PathValue.{PathValue}, Reference.{ReferenceValue}}
use Rattle.iref_grammar.specs.{NormalList.{normal}, ComponentSteps.{guarded_reference}}

-- section 5.2.3: the base's path without its last segment, then the reference's
abbrev pub merged : ReferenceValue → PathValue → PathValue
merged base p =
    if is_some base.authority && is_empty base.path.segments
    then record { absolute = true; segments = p.segments }
    else record { absolute = base.path.absolute; segments = all_but_last base.path.segments ++ p.segments }

-- the path has no characters
abbrev pub is_no_path : PathValue → Bool
is_no_path p = not p.absolute && is_empty p.segments

-- where the reference gives a path at most: the base's path as it stands, or its own or the merged one made normal
abbrev pub target_path : ReferenceValue → PathValue → PathValue
target_path base p = if is_no_path p then base.path else normal (if p.absolute then p else merged base p)

-- section 5.2.2: what the reference does not give it takes from the base; its fragment stays its own
abbrev pub target : ReferenceValue → ReferenceValue → ReferenceValue
target base r =
    if is_some r.scheme then record r { path = normal r.path }
    else (if is_some r.authority then record r { scheme = base.scheme; path = normal r.path }
    else record r {
      scheme = base.scheme;
      authority = base.authority;
      path = target_path base r.path;
      query = if is_no_path r.path then option_or r.query base.query else r.query;
    })

-- the same, with a guard where its text would be read otherwise (section 4.2)
unfoldable pub resolved : ReferenceValue → ReferenceValue → ReferenceValue
resolved base r = guarded_reference (target base r)
