-- The shortest reference to a text, chosen by tests: of most candidates the tests alone tell which is shorter.
use Rattle.std.specs.Prelude.{nat_lt, not, ◌&&◌, length, Option, Some, None, is_some, if◌then◌else◌}
use Rattle.iref_grammar.specs.{Contexts.{alone}, Reference.{ReferenceValue, spell}}
use Rattle.iref_grammar.specs.{Guard.{guarded}, NormalList.{normal, normal_segments}, Relative.{with_only_path}}
use Rattle.iref_grammar.specs.Relativized.{same_scheme_text, same_authority_text, same_path_text, same_query_text, empty_path, is_climb, relative_path, fragment_alone, climb_shortened}
use Rattle.iref_grammar.specs.RelativizedTests.{is_settled, is_reachable}

-- of two as long the first
abbrev pub shorter_of : ReferenceValue → ReferenceValue → ReferenceValue
shorter_of r other = if nat_lt (length (spell other)) (length (spell r)) then other else r

-- with the scheme, without the `/` after some `..`
abbrev pub with_own_scheme : ReferenceValue → ReferenceValue
with_own_scheme target = if not target.path.absolute && is_climb (normal_segments target.path) then climb_shortened target else target

-- the shortest that gives the whole path
abbrev pub with_whole_path : ReferenceValue → ReferenceValue → ReferenceValue
with_whole_path target base =
    if same_authority_text target base && target.path.absolute then with_only_path (guarded alone (normal target.path)) target
    else (if same_scheme_text target base && is_some target.authority then record target { scheme = None }
    else with_own_scheme target)

-- the shortest that gives a path
abbrev pub with_a_path : ReferenceValue → ReferenceValue → ReferenceValue
with_a_path target base =
    if same_authority_text target base && is_reachable target base
    then shorter_of (with_only_path (relative_path target base) target) (with_whole_path target base)
    else with_whole_path target base

-- the shortest: no path where the base's has the same text
abbrev pub chosen : ReferenceValue → ReferenceValue → Option ReferenceValue
chosen target base =
    if same_path_text target base && same_query_text target base then Some (fragment_alone target)
    else (if same_path_text target base && is_some target.query then Some (with_only_path empty_path target)
    else (if is_settled target then Some (with_a_path target base) else None))
