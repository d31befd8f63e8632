-- What may be passed on of a reference that stays in a folder.
use Rattle.std.specs.Prelude.{ℕ, Bool, true, not, ◌&&◌, ◌||◌, ◌==◌, List, [], ◌∷◌, Option, None, Some, codes}
use Rattle.std.specs.{Prelude.{bytes_eq, if◌then◌else◌, option_and_then}, List.{list_any}}
use Rattle.percent_encoding.specs.Percent.{percent_decode}
use Rattle.iref.specs.{Grammar.{slash}, NormalList.{normal_segments}, PathValue.{PathValue, spell_path}}
use Rattle.iref.specs.{Reference.{ReferenceValue}, ReferenceSuffix.{reference_suffix}, Resolution.{resolved}}
use Rattle.iref.specs.{Rules.{Text}, Texts.{before, is_empty}}

abbrev pub backslash : ℕ
backslash = 92

-- the name is empty or a dot segment
abbrev pub is_dots : Text → Bool
is_dots name = is_empty name || bytes_eq name (codes ".") || bytes_eq name (codes "..")

-- the decoded bytes hold this one
abbrev pub holds : ℕ → Text → Bool
holds byte decoded = list_any (λ b. b == byte) decoded

-- what stands before the first `;`, behind which servers read parameters, is a name, and no byte is `/`, `\` or 0
abbrev pub is_safe_decoded : Text → Bool
is_safe_decoded decoded =
    not (is_dots (before (codes ";") decoded) || holds slash decoded || holds backslash decoded || holds 0 decoded)

abbrev pub is_safe_segment : Text → Bool
is_safe_segment segment = is_safe_decoded (percent_decode segment)

-- each segment is safe, but for an empty one that ends the list, as that of `a/`
abbrev pub are_safe : List Text → Bool
are_safe [] = true
are_safe (segment ∷ rest) = if is_empty segment then is_empty rest else is_safe_segment segment && are_safe rest

-- the path, where its segments are safe; the `.` of `./a:b`, which guards the colon, is none of them
abbrev pub if_safe : PathValue → Option Text
if_safe path = if are_safe (normal_segments path) then Some (spell_path path) else None

-- what is left, after the folder, of what the reference resolves to
abbrev pub inside : ReferenceValue → ReferenceValue → ReferenceValue → Option Text
inside folder base reference = option_and_then (λ left. if_safe left.0) (reference_suffix folder (resolved base reference))
