-- Answers to lines of edits.
use Rattle.iref.proofs.ReferenceRuleLemmas.{Decides-is_uri_reference}
use Rattle.std.proofs.Common.{arith, ◌≡◌, ℕ, true, false, List, Option, Some, Ok, Err, subst, option_map}
use Rattle.std.specs.List.{list_all}
use Rattle.iref.specs.{Characters.{iri_chars, iri_above_ascii}, Grammar.{IsUriReference}}
use Rattle.iref.specs.{Reference.{ReferenceValue, read_reference, spell}, Rules.{InUtf8, Text}}
use Rattle.iref.specs.{Edits.{EditStep, EditRefusal, EditsOutcome, edited, edited_all}, EditAnswers.{AreDone}}
use Rattle.iref_batch.specs.Lines.{Edit, Answered, InvalidText, RefusedEdit, answer_if_valid, answer_text, answer_to, edits_answer, is_valid, is_valid_edit}
use Rattle.iref_batch.specs.Runs.{reply_to}

pub unfit_edits : (text : Text) (steps : List EditStep) → list_all (is_valid_edit iri_chars) steps ≡ false → is_valid iri_chars (Edit text steps) ≡ false
unfolding is_valid
unfit_edits text steps h = grind arith

no_edited_answer : (text : Text) (steps : List EditStep) → ¬ (InUtf8 (IsUriReference iri_chars) text) → answer_if_valid iri_chars (Edit text steps) ≡ InvalidText
unfolding is_valid
no_edited_answer text steps h = grind (arith, Decides-is_uri_reference iri_chars iri_above_ascii text)

outcome : (text same : Text) (steps : List EditStep) (left : EditsOutcome) → InUtf8 (IsUriReference iri_chars) text → same ≡ text → list_all (is_valid_edit iri_chars) steps ≡ true → edited_all steps (read_reference same) ≡ left → answer_if_valid iri_chars (Edit text steps) ≡ edits_answer left
unfolding is_valid answer_to
outcome text same steps left h s v e = grind (arith, Decides-is_uri_reference iri_chars iri_above_ascii text)

pub no_edited_reply : (text same : Text) (read : Option (List EditStep)) (steps : List EditStep) → read ≡ Some steps → same ≡ text → ¬ (InUtf8 (IsUriReference iri_chars) same) → reply_to (option_map (Edit text) read) ≡ answer_text InvalidText
no_edited_reply text same read steps e s h = grind (arith, no_edited_answer)

module _ (text same begun : Text) (read : Option (List EditStep)) (known : InUtf8 (IsUriReference iri_chars) same) (copied : same ≡ text) (begun_is : begun ≡ same) where
  reference_known : InUtf8 (IsUriReference iri_chars) text
  reference_known = subst (λ (t : Text). InUtf8 (IsUriReference iri_chars) t) copied known

  pub edited_reply : (written : Text) (steps : List EditStep) (new : ReferenceValue) → read ≡ Some steps → list_all (is_valid_edit iri_chars) steps ≡ true → AreDone edited steps (read_reference begun) new → written ≡ spell new → reply_to (option_map (Edit text) read) ≡ answer_text (Answered written)
  edited_reply written steps new e v d w = grind (arith, outcome text begun steps (Ok new) reference_known)

  pub refused_reply : (steps : List EditStep) (stop : ℕ × EditRefusal × ReferenceValue) → read ≡ Some steps → list_all (is_valid_edit iri_chars) steps ≡ true → edited_all steps (read_reference begun) ≡ Err stop → reply_to (option_map (Edit text) read) ≡ answer_text RefusedEdit
  refused_reply steps stop e v d = grind (arith, outcome text begun steps (Err stop) reference_known)
