-- The shortest reference again, without resolution: tests of both paths tell which candidates lead to the target's text.
use Rattle.std.specs.Prelude.{nat_le, Bool, not, ◌&&◌, List, [], ◌∷◌, ◌++◌, Option, None, is_some, if◌then◌else◌, bytes_eq}
use Rattle.iref_grammar.specs.{PathValue.{PathValue, spell_path}, Contexts.{alone}, Reference.{ReferenceValue}}
use Rattle.iref_grammar.specs.{Guard.{guarded}, NormalList.{count_parents, normal_segments, normal, kept_segments}}
use Rattle.iref_grammar.specs.{ComponentSteps.{with_normal_path}, Relative.{with_only_path}}
use Rattle.iref_grammar.specs.Relativized.{same_scheme_text, same_authority_text, same_path_text, same_query_text, empty_path, base_directory, is_climb, relative_path, only_if, fragment_alone, climb_shortened, shorter}

-- the path stands as normalizing leaves it
abbrev pub is_settled : ReferenceValue → Bool
is_settled target = bytes_eq (spell_path (with_normal_path target).path) (spell_path target.path)

-- directory and path begin at the root; or neither does, and the normal path has at least the directory's leading `..`
abbrev pub is_reachable_from : PathValue → PathValue → Bool
is_reachable_from directory p =
    (if directory.absolute then p.absolute else not p.absolute)
    && nat_le (count_parents (kept_segments directory)) (count_parents (normal_segments p))

-- a relative path leads from the base's directory to the target's path
abbrev pub is_reachable : ReferenceValue → ReferenceValue → Bool
is_reachable target base = is_reachable_from (base_directory base) target.path

-- the candidates that lead to the text of a target with a scheme
abbrev pub leading_candidates : ReferenceValue → ReferenceValue → List ReferenceValue
leading_candidates target base =
    let settled = is_settled target in
    only_if (same_path_text target base && same_query_text target base) (fragment_alone target)
    ++ only_if (same_path_text target base && is_some target.query) (with_only_path empty_path target)
    ++ only_if (same_authority_text target base && (settled && is_reachable target base)) (with_only_path (relative_path target base) target)
    ++ only_if (same_authority_text target base && target.path.absolute && settled) (with_only_path (guarded alone (normal target.path)) target)
    ++ only_if (same_scheme_text target base && is_some target.authority && settled) (record target { scheme = None })
    ++ only_if settled target
    ++ only_if (not target.path.absolute && is_climb (normal_segments target.path) && settled) (climb_shortened target)

-- the first of the shortest
abbrev pub shortest : List ReferenceValue → Option ReferenceValue
shortest [] = None
shortest (r ∷ rest) = shorter r (shortest rest)
