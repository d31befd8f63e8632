-- The text of a path that is edited in place, and what a step leaves of it.
use Rattle.std.specs.{Prelude.{◌≡◌, Bool, true, ◌&&◌}, Str.{IsUtf8}}
use Rattle.std.proofs.{lemmas.Bool.{and_parts}, lemmas.Str.{IsUtf8-from_is_utf8}}
use Rattle.iref_grammar.specs.{declared.context.PathContext.{PathContext}, Characters.{CharTests, AreAboveAscii}}
use Rattle.iref_grammar.specs.{Rules.{Text}, Tests.{is_path}, Contexts.{follows_authority, is_path_in}}
use Rattle.iref_grammar.specs.PathValue.{PathValue, read_path, spell_path}
use Rattle.iref_splice.specs.{Changes.{IsWithin, changed}, declared.change.Change.{Change}}

-- a path, which after an authority is absolute or empty
abbrev pub is_path_after : CharTests → PathContext → Text → Bool
is_path_after set context text = is_path set text && follows_authority context (read_path text)

-- the new text spells this path and is read as it; it may stand where the old one stood, and is read there as a path
-- where the old one was
pub record StepsTo (set : CharTests) (context : PathContext) (old new : Text) (value : PathValue) : Type 0 where
  pub spelled : new ≡ spell_path value
  pub read : read_path new ≡ value
  pub path : is_path_after set context new ≡ true
  pub reads : is_path_in set context old ≡ true → is_path_in set context new ≡ true

-- a step that cuts the text between characters, and leaves what this makes of its path
pub record StepsBy (change : PathValue → PathValue) (set : CharTests) (context : PathContext) (path : Text) (result : Change) : Type 0 where
  pub within : IsWithin path result.within
  pub step : StepsTo set context path (changed path result) (change (read_path path))

-- such a path is text
pub path_is_text : (set : CharTests) → AreAboveAscii set → (context : PathContext) (text : Text) → is_path_after set context text ≡ true → IsUtf8 text
unfolding is_path
path_is_text set above context text h =
    IsUtf8-from_is_utf8 text (and_parts _ _ (and_parts _ (follows_authority context (read_path text)) h).0).0
