-- The edits of a reference, each one step on its components (RFC 3986 section 3).
use Rattle.std.specs.Prelude.{true, Option, Some, None, is_some, is_none, option_map, if◌then◌else◌}
use Rattle.iref_grammar.specs.{declared.context.PathContext.{PathContext}, Rules.{Text}, Authority.{AuthorityValue}}
use Rattle.iref_grammar.specs.{PathValue.{PathValue}, Reference.{ReferenceValue, context_of}}
use Rattle.iref_grammar.specs.{Guard.{guarded}, NormalList.{normal}}

-- with the path guarded for where it stands (sections 3.3 and 4.2)
abbrev pub guarded_reference : ReferenceValue → ReferenceValue
guarded_reference r = record r { path = guarded (context_of r) r.path }

-- without a scheme the path may need a guard
unfoldable pub with_scheme : Option Text → ReferenceValue → ReferenceValue
with_scheme None r = guarded_reference (record r { scheme = None })
with_scheme (Some s) r = record r { scheme = Some s }

-- where an authority comes to stand, the path becomes absolute: one with segments by section 3.3, the empty one by choice
abbrev pub path_after_new_authority : Option AuthorityValue → ReferenceValue → PathValue
path_after_new_authority authority r =
    if is_some authority then (if is_none r.authority then record r.path { absolute = true } else r.path) else r.path

-- the authority replaced or removed, the path made to fit
unfoldable pub with_authority : Option AuthorityValue → ReferenceValue → ReferenceValue
with_authority authority r = guarded_reference (record r { authority = authority; path = path_after_new_authority authority r })

-- the path replaced, and guarded
unfoldable pub with_path : PathValue → ReferenceValue → ReferenceValue
with_path p r = guarded_reference (record r { path = p })

-- query and fragment replaced
abbrev pub with_query : Option Text → ReferenceValue → ReferenceValue
with_query query r = record r { query = query }

abbrev pub with_fragment : Option Text → ReferenceValue → ReferenceValue
with_fragment fragment r = record r { fragment = fragment }

-- a step of the authority, where there is one
abbrev pub with_authority_step : (AuthorityValue → AuthorityValue) → ReferenceValue → ReferenceValue
with_authority_step step r = record r { authority = option_map step r.authority }

-- a step of the path, in the context of the reference
abbrev pub with_path_step : (PathContext → PathValue → PathValue) → ReferenceValue → ReferenceValue
with_path_step step r = record r { path = step (context_of r) r.path }

-- the path made normal (section 6.2.2.3), and the same with a new path
abbrev pub with_normal_path : ReferenceValue → ReferenceValue
with_normal_path r = guarded_reference (record r { path = normal r.path })

abbrev pub with_new_normal_path : PathValue → ReferenceValue → ReferenceValue
with_new_normal_path p r = with_normal_path (with_path p r)
