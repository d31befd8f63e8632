-- A list of edits is done an edit at a time.
use Rattle.std.proofs.Common.{◌≡◌, ℕ, ◌+◌, zero, suc, Bool, true, false, List, [], ◌∷◌, ◌<◌, ◌≤◌, map, take, length, get_or, Result, Ok, Err, refl, add-one, arith, Option, Some, IsOk, is_some, is_none, option_map, slice_get}
use Rattle.std.proofs.{lemmas.List.{take_all, length-map}, lemmas.Option.{slice_get-map, slice_get_read}}
use Rattle.iref_grammar.specs.{Rules.{Text}, Authority.{spell_authority}, Reference.{ReferenceValue, read_reference}}
use Rattle.iref_grammar.specs.Edits as model
use Rattle.iref_grammar.specs.Edits.{EditStep, EditRefusal, Edited, drops_scheme, edited, edited_uri, edited_from}
use Rattle.iref.specs.declared.edits.EditFault.{EditFault}
use Rattle.iref.specs.EditAnswers.{AppliesEdit, AreDone, StopsAt, edited_in, is_authority_edit}

-- an edit that keeps the scheme does the same under each rule
pub kept_in : (allows : Option Text → Bool) (edit : EditStep) (r : ReferenceValue) {outcome : Result ReferenceValue EditRefusal} → drops_scheme edit ≡ false → edited edit r ≡ outcome → edited_in allows edit r ≡ outcome
unfolding edited_uri
kept_in allows edit r {outcome} h e = grind arith

pub keeps_scheme : (edit : EditStep) → is_authority_edit edit ≡ true → drops_scheme edit ≡ false
keeps_scheme edit h = grind arith

-- under each rule an edit is done that keeps the scheme and is of no part of the authority
pub done_in : (allows : Option Text → Bool) (edit : EditStep) (r : ReferenceValue) → drops_scheme edit ≡ false → is_authority_edit edit ≡ false → IsOk (edited_in allows edit r)
unfolding edited edited_uri
done_in allows edit r keeps h = grind arith

-- and one of a part of the authority, where there is one
pub part_done_in : (allows : Option Text → Bool) (edit : EditStep) (r : ReferenceValue) → is_authority_edit edit ≡ true → is_some r.authority ≡ true → IsOk (edited_in allows edit r)
unfolding edited edited_uri
part_done_in allows edit r h some = grind arith

-- an edit is refused also where the texts of the parts show no authority
pub refused_in : {A : Type 0} (allows : Option Text → Bool) (edit : EditStep) (r : ReferenceValue) (text_of : A → Text) (found : Option A) → is_authority_edit edit ≡ true
    → option_map text_of found ≡ option_map spell_authority r.authority → is_none found ≡ true → edited_in allows edit r ≡ Err model.NoAuthority
unfolding edited edited_uri
refused_in allows edit r text_of found h e none = grind arith

-- where they show an authority
pub found_in : {A : Type 0} (r : ReferenceValue) (text_of : A → Text) (found : Option A) → option_map text_of found ≡ option_map spell_authority r.authority → is_none found ≡ false → is_some r.authority ≡ true
found_in r text_of found e some = grind arith

module _ (step : Edited) where
  -- one more is done
  done_next : (n i : ℕ) (edits : List EditStep) (edit : EditStep) (old r new : ReferenceValue) → edited_from step n (take i edits) old ≡ Ok r → slice_get edits i ≡ Some edit → step edit r ≡ Ok new → edited_from step n (take (suc i) edits) old ≡ Ok new
  unfolding edited_from
  done_next n i [] edit old r new h at e = absurd (cc)
  done_next n zero (first ∷ edits) edit old r new h at e = grind arith
  done_next n (suc i) (first ∷ edits) edit old r new h at e = grind (arith, λ (after : ReferenceValue). done_next (n + 1) i edits edit after r new)

  -- the next is refused
  stops_next : (n i : ℕ) (edits : List EditStep) (edit : EditStep) (refusal : EditRefusal) (old r : ReferenceValue) → edited_from step n (take i edits) old ≡ Ok r → slice_get edits i ≡ Some edit → step edit r ≡ Err refusal → edited_from step n edits old ≡ Err (n + i, refusal, r)
  unfolding edited_from
  stops_next n i [] edit refusal old r h at e = absurd (cc)
  stops_next n zero (first ∷ edits) edit refusal old r h at e = grind arith
  stops_next n (suc i) (first ∷ edits) edit refusal old r h at e = grind (arith, λ (after : ReferenceValue). stops_next (n + 1) i edits edit refusal after r)

  -- no edits leave what there was
  pub none_done : (edits : List EditStep) (r : ReferenceValue) → AreDone step (take 0 edits) r r
  unfolding edited_from
  none_done edits r = refl

  -- all that were done are all
  pub all_done : {X : Type 0} (f : X → EditStep) (xs : List X) (i : ℕ) (old new : ReferenceValue) → length xs ≤ i → AreDone step (take i (map f xs)) old new → AreDone step (map f xs) old new
  all_done f xs i old new h d = grind (arith, take_all, length-map)

  module _ {X : Type 0} (f : X → EditStep) (xs : List X) (i : ℕ) (x : X) (old : ReferenceValue) (before after : Text) (inside : i < length xs) (is : x ≡ get_or xs i x) (h : AreDone step (take i (map f xs)) old (read_reference before)) where
    here : slice_get (map f xs) i ≡ Some (f x)
    here = grind (arith, slice_get-map, slice_get_read)

    -- the next is done too
    pub done_at : AppliesEdit step (f x) before after (Ok tt) → AreDone step (take (i + 1) (map f xs)) old (read_reference after)
    done_at e = grind (arith, add-one, done_next, here)

    -- it stops there
    pub stops_at : (error : EditFault) → AppliesEdit step (f x) before after (Err error) → StopsAt step (map f xs) old (read_reference after) i error
    stops_at error e = grind (arith, stops_next, here)
