-- The shortest reference that resolves to a text, character for character (RFC 3986 sections 4.2 and 5.2).
use Rattle.std.specs.Prelude.{◌-◌, nat_lt, Bool, true, false, not, ◌&&◌, List, [], ◌∷◌, ◌++◌, length, drop, replicate, codes, Option, Some, None, is_some, if◌then◌else◌, bytes_eq, option_map}
use Rattle.std.specs.List.{common_prefix_len, list_all}
use Rattle.iref_grammar.specs.{Rules.{Text}, Grammar.{colon, question_mark}}
use Rattle.iref_grammar.specs.Texts.{is_empty, all_but_last, part_then, then_part}
use Rattle.iref_grammar.specs.{PathValue.{PathValue, spell_path, is_one_empty}, Contexts.{alone}}
use Rattle.iref_grammar.specs.{Authority.{spell_authority}, Reference.{ReferenceValue, spell}}
use Rattle.iref_grammar.specs.{Guard.{guarded}, NormalList.{normal_segments, normal, kept_segments, is_dot_dot}}
use Rattle.iref_grammar.specs.{Relative.{last_or_empty, with_only_path}, Resolution.{resolved, merged}}

-- ---- what target and base have in common, by their texts

abbrev pub same_scheme_text : ReferenceValue → ReferenceValue → Bool
same_scheme_text target base = bytes_eq (part_then (colon ∷ []) target.scheme) (part_then (colon ∷ []) base.scheme)

abbrev pub authority_text : ReferenceValue → Text
authority_text r = then_part (codes "//") (option_map spell_authority r.authority)

-- the scheme and the authority
abbrev pub same_authority_text : ReferenceValue → ReferenceValue → Bool
same_authority_text target base = same_scheme_text target base && bytes_eq (authority_text target) (authority_text base)

-- the scheme, the authority and the path
abbrev pub same_path_text : ReferenceValue → ReferenceValue → Bool
same_path_text target base = same_authority_text target base && bytes_eq (spell_path target.path) (spell_path base.path)

abbrev pub query_text : ReferenceValue → Text
query_text r = then_part (question_mark ∷ []) r.query

abbrev pub same_query_text : ReferenceValue → ReferenceValue → Bool
same_query_text target base = bytes_eq (query_text target) (query_text base)

-- ---- the relative path

abbrev pub empty_path : PathValue
empty_path = record { absolute = false; segments = [] }

-- what a relative path is merged with (section 5.2.3): the base's path without its last segment
abbrev pub base_directory : ReferenceValue → PathValue
base_directory base = merged base empty_path

-- from a directory to a normal list: `..` up to what they have in common, then the rest of the list
abbrev pub steps_by_text : List Text → List Text → List Text
steps_by_text directory list =
    let common = common_prefix_len bytes_eq directory (all_but_last list) in
    replicate (length directory - common) (codes "..") ++ drop common (all_but_last list) ++ last_or_empty list ∷ []

-- one `..` or more, and an empty segment after them
abbrev pub is_climb : List Text → Bool
is_climb list = is_empty (last_or_empty list) && not (is_empty (all_but_last list)) && list_all is_dot_dot (all_but_last list)

-- `..` for `../`, and `.` for the empty segment alone
abbrev pub shortened : List Text → List Text
shortened list = if is_climb list then all_but_last list else (if is_one_empty list then codes "." ∷ [] else list)

-- the relative path from a directory to a path
abbrev pub path_from : PathValue → PathValue → PathValue
path_from directory p =
    guarded alone (record { absolute = false; segments = shortened (steps_by_text (kept_segments directory) (normal_segments p)) })

abbrev pub relative_path : ReferenceValue → ReferenceValue → PathValue
relative_path target base = path_from (base_directory base) target.path

-- ---- the candidates

abbrev pub only_if : Bool → ReferenceValue → List ReferenceValue
only_if condition r = if condition then r ∷ [] else []

-- the fragment alone
abbrev pub fragment_alone : ReferenceValue → ReferenceValue
fragment_alone target = record target { scheme = None; authority = None; path = empty_path; query = None }

-- `s:..` for `s:../`
abbrev pub climb_shortened : ReferenceValue → ReferenceValue
climb_shortened target = record target { path = record { absolute = false; segments = all_but_last (normal_segments target.path) } }

-- a shortest reference is among these, if any reference resolves to the target's text
abbrev pub candidates : ReferenceValue → ReferenceValue → List ReferenceValue
candidates target base =
    only_if (same_path_text target base && same_query_text target base) (fragment_alone target)
    ++ only_if (same_path_text target base && is_some target.query) (with_only_path empty_path target)
    ++ only_if (same_authority_text target base) (with_only_path (relative_path target base) target)
    ++ only_if (same_authority_text target base && target.path.absolute) (with_only_path (guarded alone (normal target.path)) target)
    ++ only_if (same_scheme_text target base && is_some target.authority) (record target { scheme = None })
    ++ only_if true target
    ++ only_if (not target.path.absolute && is_climb (normal_segments target.path)) (climb_shortened target)

-- ---- the choice

-- from the base, the reference leads to the target's text
abbrev pub is_exact : ReferenceValue → ReferenceValue → ReferenceValue → Bool
is_exact target base r = bytes_eq (spell (resolved base r)) (spell target)

-- the one with the shorter text, and of two as short the first
abbrev pub shorter : ReferenceValue → Option ReferenceValue → Option ReferenceValue
shorter r None = Some r
shorter r (Some other) = if nat_lt (length (spell other)) (length (spell r)) then Some other else Some r

abbrev pub shortest_exact : ReferenceValue → ReferenceValue → List ReferenceValue → Option ReferenceValue
shortest_exact target base [] = None
shortest_exact target base (r ∷ rest) =
    if is_exact target base r then shorter r (shortest_exact target base rest) else shortest_exact target base rest

-- the first of the shortest candidates that lead to the target's text
unfoldable pub relativized : ReferenceValue → ReferenceValue → Option ReferenceValue
relativized target base = shortest_exact target base (candidates target base)
