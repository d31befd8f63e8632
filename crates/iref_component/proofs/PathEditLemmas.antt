-- The text that an edit leaves.
use Rattle.std.proofs.{Common.{true, ◌≡◌, ℕ, ◌+◌, [], length, sym, ap, ◌∙◌, arith}, lemmas.Grind.{common_steps}}
use Rattle.std.proofs.lemmas.List.{drop_all, take_all}
use Rattle.std.specs.List.{splice, slice_range}
use Rattle.iref_grammar.specs.{declared.context.PathContext.{PathContext}, Rules.{Text}}
use Rattle.iref_grammar.specs.{Characters.{AreAboveAscii, CharTests}, Contexts.{is_path_in}, Tests.{is_path}}
use Rattle.iref_grammar.specs.PathValue.{PathValue, read_path, spell_path}
use Rattle.iref_grammar.proofs.{TextLemmas.{first_of_both}, PathLemmas.{read_path-reads}}
use Rattle.iref_grammar.specs.{DotSegments.{RemovesDotSegments}, PathSteps.{normalized}}
use Rattle.iref_grammar.proofs.RewritingLemmas.{path_removes_dot_segments}
use Rattle.iref_path.specs.{Rewriting.{rewritten}, PathParts.{is_path_after, StepsTo}}
use Rattle.iref_path.proofs.SpellLemmas.{normalized-in_context}

-- all of a text replaced
pub splice_all : (old text : Text) (start end : ℕ) → start ≡ 0 → end ≡ length old → splice old start end text ≡ text
splice_all old text start end from to = grind (arith, common_steps, drop_all)

pub slice_all : (text : Text) (start end : ℕ) → start ≡ 0 → end ≡ start + length text → slice_range text start end ≡ text
slice_all text start end from to = grind (arith, common_steps, take_all)

-- what an edit of an editor of a whole text comes to
pub ruleset whole_steps = (splice_all, slice_all)

-- the text that replaces a whole path is one step
pub put_steps : (set : CharTests) (context : PathContext) (old new text : Text) (value : PathValue) → new ≡ text → is_path_after set context text ≡ true → (is_path_in set context old ≡ true → is_path_in set context text ≡ true) → read_path text ≡ value
    → StepsTo set context old new value
put_steps set context old new text value same path reads e = rw same (record { spelled = sym (read_path-reads text).spelled ∙ ap spell_path e; read = e; path = path; reads = reads })

-- what is left of the dots of a text once its normal path stands there
pub normal_dots : (context : PathContext) (old new : Text) → context.has_authority ≡ true → (read_path old).absolute ≡ true → read_path new ≡ normalized context (read_path old) → RemovesDotSegments old [] new
normal_dots context old new authority absolute e =
    let removed = path_removes_dot_segments context (read_path old) authority absolute (read_path-reads old).segments in
    rw (← e, (read_path-reads new).spelled, (read_path-reads old).spelled) at removed

-- the normal form that is written over the path may stand there
pub normal_fits : (set : CharTests) → AreAboveAscii set → (context : PathContext) (path old guard : Text) → path ≡ old → rewritten guard path ≡ spell_path (normalized context (read_path path)) → is_path_after set context path ≡ true
    → (rewritten guard old ≡ spell_path (normalized context (read_path old))) × (is_path_in set context (rewritten guard old) ≡ true) × (is_path_after set context (rewritten guard old) ≡ true)
normal_fits set above context path old guard e spelled h =
    let text = rw e at spelled in
    let path_is : is_path set old ≡ true = first_of_both _ _ (rw e at h) in
    let fit = normalized-in_context context (read_path old).absolute old set above path_is in
    (text, ap (is_path_in set context) text ∙ fit.0, ap (is_path_after set context) text ∙ fit.1)
