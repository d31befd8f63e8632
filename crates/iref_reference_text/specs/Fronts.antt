-- The front part of a base's text that stays before a reference's text (RFC 3986 sections 5.2.3 and 5.3).
use Rattle.std.specs.Prelude.{◌≡◌, ℕ, true, [], ◌∷◌, ◌++◌, codes, is_some, length}
use Rattle.iref_grammar.specs.{declared.context.PathContext.{PathContext}, Rules.{Text}, Grammar.{colon}}
use Rattle.iref_grammar.specs.{Texts.{part_then, then_part}, ComponentTexts.{ComponentTexts}}
use Rattle.iref_grammar.specs.{PathValue.{read_path, spell_path}, Reference.{ReferenceValue, spell}}
use Rattle.iref_grammar.specs.PathSteps.{normalized}
use Rattle.iref_path.specs.MergedPaths.{path_after}
use Rattle.iref_reference_text.specs.{ComponentLengths.{lengths_of}, declared.lengths.Lengths.{Lengths}}

-- the path that one resolves to after these components
abbrev pub resolved_path : ComponentTexts → Text → Text
resolved_path t path =
    let context : PathContext = record { has_scheme = is_some t.scheme; has_authority = is_some t.authority } in
    spell_path (normalized context (path_after context.has_authority (read_path t.path) (read_path path)))

-- this text and the path spell the scheme, the authority and that path
abbrev pub StaysBefore : ComponentTexts → Text → Text → Type 0
StaysBefore t path front = front ++ path ≡ part_then (colon ∷ []) t.scheme ++ then_part (codes "//") t.authority ++ resolved_path t path

-- the text spells the reference, of which the components are this long
pub record IsSpelled (r : ReferenceValue) (whole : Text) (l : Lengths) : Type 0 where
  pub text : whole ≡ spell r
  pub lengths : l ≡ lengths_of r

-- between two texts stands the path, this long, that one resolves to after an authority and a base's path
abbrev pub IsAround : Text → Text → Text → Text → Text → ℕ → Type 0
IsAround front base path behind text len =
    (context : PathContext) → context.has_authority ≡ true → let between = spell_path (normalized context (path_after true (read_path base) (read_path path))) in
    (text ≡ front ++ (between ++ behind)) × (len ≡ length between)
