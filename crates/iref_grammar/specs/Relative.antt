-- A reference that leads from a base to a target, the way back from resolution (RFC 3986 section 5.2).
use Rattle.std.specs.Prelude.{◌-◌, Bool, false, not, ◌&&◌, ◌||◌, List, [], ◌∷◌, ◌++◌, length, drop, replicate, codes, None, is_some, is_none, if◌then◌else◌}
use Rattle.std.specs.{List.{common_prefix_len}, Option.{option_cmp}, Ordering.{is_eq}}
use Rattle.iref_grammar.specs.{Rules.{Text}, Texts.{is_empty, all_but_last}, PathValue.{PathValue}, Contexts.{alone}}
use Rattle.iref_grammar.specs.{Reference.{ReferenceValue}, Keys.{text_order}}
use Rattle.iref_grammar.specs.{Guard.{guarded}, NormalList.{normal, normal_segments, staying_names}}
use Rattle.iref_grammar.specs.{PathSuffix.{same_decoded}, AuthorityKey.{authority_key_cmp}, Key.{key}}
use Rattle.iref_grammar.specs.PathKey.{path_key_cmp, path_key}

-- equality of single components, by their keys
abbrev pub have_same_scheme : ReferenceValue → ReferenceValue → Bool
have_same_scheme r s = is_eq (option_cmp text_order (key r).scheme (key s).scheme)

abbrev pub have_same_authority : ReferenceValue → ReferenceValue → Bool
have_same_authority r s = is_eq (option_cmp authority_key_cmp (key r).authority (key s).authority)

abbrev pub have_same_path : ReferenceValue → ReferenceValue → Bool
have_same_path r s = is_eq (path_key_cmp (path_key r.path) (path_key s.path))

-- they are equal, or the target takes its scheme from the base
abbrev pub schemes_agree : ReferenceValue → ReferenceValue → Bool
schemes_agree target base =
    have_same_scheme target base || is_none target.scheme && (is_some target.authority || target.path.absolute)

-- The empty path is taken for the target's: it leads to the base's path and, where the reference has none, to the base's query.
-- It is not taken for an absolute path with segments that nothing follows: from `http://a/b` to itself the path is `b`.
abbrev pub is_same_place : ReferenceValue → ReferenceValue → Bool
is_same_place target base =
    have_same_path target base && (is_some target.query || is_none base.query)
    && (is_some target.query || is_some target.fragment || is_empty (normal_segments target.path) || not target.path.absolute)

-- the last segment, and an empty one of the empty list
abbrev pub last_or_empty : List Text → Text
last_or_empty [] = []
last_or_empty (s ∷ rest) = if is_empty rest then s else last_or_empty rest

-- the segments that lead from a directory to a normal list: up to their longest common prefix, and down
abbrev pub steps_between : List Text → List Text → List Text
steps_between directory list =
    let common = common_prefix_len same_decoded directory (all_but_last list) in
    replicate (length directory - common) (codes "..") ++ drop common (all_but_last list) ++ last_or_empty list ∷ []

-- the names that stay of the list without its last segment
abbrev pub directory_names : PathValue → List Text
directory_names p = staying_names (all_but_last p.segments)

-- steps from the base's directory; from a base with no root the whole path
abbrev pub leading_path : ReferenceValue → ReferenceValue → PathValue
leading_path target base =
    guarded alone
    (if base.path.absolute
    then record { absolute = false; segments = steps_between (directory_names base.path) (normal_segments target.path) }
    else normal target.path)

-- the target's query and fragment after a path
abbrev pub with_only_path : PathValue → ReferenceValue → ReferenceValue
with_only_path p target = record target { scheme = None; authority = None; path = p }

-- the empty path, a leading path, or the target whole
unfoldable pub relative_to : ReferenceValue → ReferenceValue → ReferenceValue
relative_to target base =
    if schemes_agree target base && have_same_authority target base
    then (if is_same_place target base then with_only_path (record { absolute = false; segments = [] }) target
    else (if target.path.absolute then with_only_path (leading_path target base) target else target))
    else target
