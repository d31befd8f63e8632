-- Where the path of a reference stands, and what is left of it without dot segments.
use Rattle.std.specs.Prelude.{ℕ, ◌≡◌, ◌≤◌, true, [], is_some, length}
use Rattle.std.proofs.Props.{props}
use Rattle.iref_grammar.specs.{declared.context.PathContext.{PathContext}, Characters.{CharTests}, Rules.{Text}}
use Rattle.iref_grammar.specs.{PathValue.{spell_path}, Reference.{ReferenceValue, read_reference, is_reference}}
use Rattle.iref_grammar.specs.ComponentOffsets.{offsets_of}
use Rattle.iref_grammar.proofs.RangeLemmas.{path_inside}
use Rattle.iref_grammar.specs.DotSegments.{RemovesDotSegments}

-- the path of the reference that the text spells, in its context
abbrev pub IsPathOf : CharTests → Text → PathContext → ℕ → ℕ → Type 0
IsPathOf set text context start end =
    (is_reference set text ≡ true) × (start ≡ (offsets_of text).path.start) × (end ≡ (offsets_of text).path.end)
    × (context.has_scheme ≡ is_some (read_reference text).scheme) × (context.has_authority ≡ is_some (read_reference text).authority)

pub one_path : (set : CharTests) (text : Text) (context : PathContext) (start end : ℕ) → IsProp (IsPathOf set text context start end)
one_path set text context start end = hlevel props

pub path_is_within : (set : CharTests) (text : Text) (context : PathContext) (start end : ℕ) → IsPathOf set text context start end → (start ≤ end) × (end ≤ length text)
path_is_within set text context start end stands = (rw (stands.1, stands.2) (path_inside text).0, rw stands.2 (path_inside text).1)

-- after an authority, an absolute path keeps what `remove_dot_segments` leaves of it (RFC 3986 section 5.2.4)
abbrev pub RemovesDots : ReferenceValue → ReferenceValue → Type 0
RemovesDots old new = is_some old.authority ≡ true → old.path.absolute ≡ true → RemovesDotSegments (spell_path old.path) [] (spell_path new.path)
