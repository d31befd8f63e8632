-- Edits that leave the query and the fragment as they are, on a reference without these and on the whole one.
use Rattle.std.proofs.Common.{◌≡◌, ℕ, zero, suc, ◌+◌, Bool, true, List, [], ◌∷◌, ◌∙◌, take, Result, Ok, Err, ap, arith, refl, Option}
use Rattle.std.specs.List.{list_all}
use Rattle.iref_grammar.specs.{Rules.{Text}, Reference.{ReferenceValue}}
use Rattle.iref_grammar.specs.ComponentSteps.{with_fragment, with_query, with_scheme, with_authority, with_path}
use Rattle.iref_grammar.specs.Edits.{EditStep, EditRefusal, Edited, EditsOutcome, edited, edited_uri, edited_from}
use Rattle.iref.specs.EditAnswers.{AreDone, edited_in, keeps_query_and_fragment}

list_all-taken : (p : EditStep → Bool) (n : ℕ) (edits : List EditStep) → list_all p edits ≡ true → list_all p (take n edits) ≡ true
list_all-taken p zero edits h = refl
list_all-taken p (suc n) [] h = refl
list_all-taken p (suc n) (edit ∷ edits) h = grind (arith, list_all-taken p n edits)

module _ (query fragment : Option Text) where
  -- a reference with this query and this fragment
  abbrev completed : ReferenceValue → ReferenceValue
  completed r = with_query query (with_fragment fragment r)

  abbrev completed_edit : Result ReferenceValue EditRefusal → Result ReferenceValue EditRefusal
  completed_edit (Ok r) = Ok (completed r)
  completed_edit (Err refusal) = Err refusal

  abbrev completed_list : EditsOutcome → EditsOutcome
  completed_list (Ok r) = Ok (completed r)
  completed_list (Err (i, refusal, r)) = Err (i, refusal, completed r)

  edited-completed : (edit : EditStep) (r : ReferenceValue) → keeps_query_and_fragment edit ≡ true → edited edit (completed r) ≡ completed_edit (edited edit r)
  unfolding edited with_scheme with_authority with_path
  edited-completed edit r h = grind arith

  pub edited_in-completed : (allows : Option Text → Bool) (edit : EditStep) (r : ReferenceValue) → keeps_query_and_fragment edit ≡ true → edited_in allows edit (completed r) ≡ completed_edit (edited_in allows edit r)
  unfolding edited_uri
  edited_in-completed allows edit r h = grind (arith, edited-completed edit r h)

  module _ (step : Edited) (kept : (edit : EditStep) (r : ReferenceValue) → keeps_query_and_fragment edit ≡ true → step edit (completed r) ≡ completed_edit (step edit r)) where
    edited_from-completed : (n : ℕ) (edits : List EditStep) (r : ReferenceValue) → list_all keeps_query_and_fragment edits ≡ true → edited_from step n edits (completed r) ≡ completed_list (edited_from step n edits r)
    unfolding edited_from
    edited_from-completed n [] r h = refl
    edited_from-completed n (edit ∷ edits) r h = grind (arith, kept, λ (after : ReferenceValue). edited_from-completed (n + 1) edits after)

    -- what a list does
    pub done-completed : (edits : List EditStep) (n : ℕ) → list_all keeps_query_and_fragment edits ≡ true → (r after : ReferenceValue) → AreDone step (take n edits) r after → AreDone step (take n edits) (completed r) (completed after)
    done-completed edits n h r after e = edited_from-completed 0 (take n edits) r (list_all-taken keeps_query_and_fragment n edits h) ∙ ap completed_list e
