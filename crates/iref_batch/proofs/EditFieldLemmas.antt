-- The edits that fields name, one after the other.
use Rattle.std.proofs.Common.{arith, ◌≡◌, ◌&&◌, Bool, true, false, List, [], ◌∷◌, ◌++◌, Option, Some, Result, Err, ap, ◌∙◌, bytes_eq, option_map, MatchResult, IsOkAnd}
use Rattle.std.proofs.{lemmas.Slice.Eq.{bytes_eq-Decides}, Math.Bool.{and-false, and-true}}
use Rattle.std.specs.List.{find, list_all}
use Rattle.iref.specs.{Characters.{iri_chars}, Rules.{Text}, Edits.{EditStep}, Texts.{after, before}}
use Rattle.iref_batch.specs.Lines.{edit_names, equals_sign, read_edit, is_valid_edit}
use Rattle.iref_batch.specs.declared.edit_fields.FieldError.{FieldError}
use Rattle.iref_batch.specs.EditFields.{IsRead, EditNames, edit_named, edits_read}
use Rattle.iref_batch.proofs.FieldListLemmas.{next_read}

-- the name that was asked for is looked up
pub made_by_name : {V A W : Type 0} (names : EditNames) (wanted name : Text) (value : Option Text) (by : Option Text → Option EditStep) (make : V → W) (shown : V → A) (is_valid : A → Bool) (shown_then : W → EditStep) (step : A → EditStep)
    (read : Option A) (r : Result V FieldError) (s : Result W FieldError) → true ≡ bytes_eq wanted name → find (λ e. bytes_eq e.0 wanted) names ≡ Some (wanted, by) → by value ≡ option_map step read → ((v : V) → shown_then (make v) ≡ step (shown v))
    → ((a : A) → is_valid_edit iri_chars (step a) ≡ is_valid a) → MatchResult r (λ v. IsOkAnd s (λ w. w ≡ make v)) (λ e. s ≡ Err e) → IsRead shown is_valid read r → IsRead shown_then (is_valid_edit iri_chars) (edit_named names name value) s
made_by_name names wanted name value by make shown is_valid shown_then step read r s h k b f g m i =
    let same : edit_named names name value ≡ option_map step read = grind (arith, bytes_eq-Decides) in
    rw same (grind arith)

pub read_is_named : (field name : Text) (value : Option Text) → name ≡ before (equals_sign ∷ []) field → value ≡ after equals_sign field → edit_named edit_names name value ≡ read_edit field
read_is_named field name value e f = λ i. edit_named edit_names (e i) (f i)

-- the fields before the ones that are left were read as steps
pub record Reading (all left : List Text) (kept : List EditStep) (valid : Bool) : Type 0 where
  pub steps : List EditStep
  pub read : edits_read all ≡ option_map (λ more. steps ++ more) (edits_read left)
  pub valid_is : list_all (is_valid_edit iri_chars) steps ≡ valid
  pub kept_is : valid ≡ true → kept ≡ steps

all_valid-push : (steps : List EditStep) (step : EditStep) → list_all (is_valid_edit iri_chars) (steps ++ step ∷ []) ≡ (list_all (is_valid_edit iri_chars) steps && is_valid_edit iri_chars step)
all_valid-push [] step = and-true (is_valid_edit iri_chars step)
all_valid-push (s ∷ steps) step = grind (arith, all_valid-push steps step)

pub reading_more : (all left rest : List Text) (field : Text) (kept kept_then : List EditStep) (valid : Bool) (step : EditStep) → left ≡ field ∷ rest → read_edit field ≡ Some step → is_valid_edit iri_chars step ≡ true → kept_then ≡ kept ++ step ∷ [] → Reading all left kept valid → Reading all rest kept_then valid
reading_more all left rest field kept kept_then valid step l e v k r = record {
  steps = r.steps ++ step ∷ [];
  read = next_read read_edit all left rest field r.steps step l e r.read;
  valid_is = all_valid-push r.steps step ∙ rw (r.valid_is, v) (and-true valid);
  kept_is = λ h. k ∙ ap (λ (s : List EditStep). s ++ step ∷ []) (r.kept_is h);
}

pub reading_invalid : (all left rest : List Text) (field : Text) (kept : List EditStep) (valid : Bool) → left ≡ field ∷ rest → ((step : EditStep) × (read_edit field ≡ Some step) × (is_valid_edit iri_chars step ≡ false)) → Reading all left kept valid → Reading all rest kept false
reading_invalid all left rest field kept valid l bad r = record {
  steps = r.steps ++ bad.0 ∷ [];
  read = next_read read_edit all left rest field r.steps bad.0 l bad.1 r.read;
  valid_is = all_valid-push r.steps bad.0 ∙ rw (r.valid_is, bad.2) (and-false valid);
  kept_is = λ h. absurd (cc);
}
