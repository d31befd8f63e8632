-- A list of edits is done in runs.
use Rattle.std.proofs.Common.{◌≡◌, ℕ, zero, suc, ◌+◌, ◌-◌, ◌≤◌, List, [], ◌∷◌, ◌++◌, ◌∙◌, map, take, drop, length, length-take-le, Ok, Err, refl, sym, ap, subst, arith, IsSomeAnd, slice_get}
use Rattle.std.proofs.Math.Seq.{take-add}
use Rattle.std.proofs.lemmas.List.{drop-map, length-map, take-append-drop, take-map, take-take, take_rest}
use Rattle.iref_grammar.specs.Reference.{ReferenceValue}
use Rattle.iref_grammar.specs.Edits as model
use Rattle.iref_grammar.specs.Edits.{EditStep, EditRefusal, Edited, EditsOutcome, edited_from}
use Rattle.iref.specs.declared.edits.EditFault.{EditFault}
use Rattle.iref.specs.declared.edits.EditFault.TheVariants.{NoAuthority, SchemeNeeded, Memory}
use Rattle.iref.specs.EditAnswers.{AreDone, Refuses, StopsAt}

slice_get_behind : (xs : List EditStep) (d i : ℕ) → slice_get xs (d + i) ≡ slice_get (drop d xs) i
slice_get_behind xs zero i = grind arith
slice_get_behind [] (suc d) i = grind arith
slice_get_behind (x ∷ xs) (suc d) i = grind (arith, slice_get_behind xs d i)

module _ (step : Edited) where
  -- what edits from a later number do
  abbrev shifted : ℕ → EditsOutcome → EditsOutcome
  shifted n (Ok r) = Ok r
  shifted n (Err (i, refusal, r)) = Err (n + i, refusal, r)

  edited_from-shifted : (n m : ℕ) (edits : List EditStep) (r : ReferenceValue) → edited_from step (n + m) edits r ≡ shifted n (edited_from step m edits r)
  unfolding edited_from
  edited_from-shifted n m [] r = refl
  edited_from-shifted n m (edit ∷ edits) r = grind (arith, λ (after : ReferenceValue). edited_from-shifted n (m + 1) edits after)

  -- edits behind others that were done
  edited_from-append : (n : ℕ) (front back : List EditStep) (old mid : ReferenceValue) → edited_from step n front old ≡ Ok mid → edited_from step n (front ++ back) old ≡ edited_from step (n + length front) back mid
  unfolding edited_from
  edited_from-append n [] back old mid h = grind arith
  edited_from-append n (edit ∷ front) back old mid h = grind (arith, λ (after : ReferenceValue). edited_from-append (n + 1) front back after mid)

  edited_from-behind : (front back : List EditStep) (old mid : ReferenceValue) → AreDone step front old mid → edited_from step 0 (front ++ back) old ≡ shifted (length front) (edited_from step 0 back mid)
  edited_from-behind front back old mid h =
      let n : 0 + length front ≡ length front + 0 = omega arith in
      edited_from-append 0 front back old mid h ∙ ap (λ n. edited_from step n back mid) n ∙ edited_from-shifted (length front) 0 back mid

  module _ {X : Type 0} (f : X → EditStep) (edits : List X) (d : ℕ) (old mid new : ReferenceValue) (h : AreDone step (take d (map f edits)) old mid) where
    abbrev xs : List EditStep
    xs = map f edits

    taken_behind : (n : ℕ) → AreDone step (take n (drop d xs)) mid new → AreDone step (take (d + n) xs) old new
    taken_behind n e =
        ap (λ t. edited_from step 0 t old) (take-add d n xs) ∙ edited_from-behind (take d xs) (take n (drop d xs)) old mid h ∙ ap (shifted (length (take d xs))) e

    -- edits behind the first ones are done too
    pub done_behind : (k n : ℕ) → n ≤ k → AreDone step (take n (map f (take k (drop d edits)))) mid new → AreDone step (take (d + n) xs) old new
    done_behind k n l e =
        let part = ap (take n) (sym (take-map f k (drop d edits))) ∙ take-take n k (map f (drop d edits)) l ∙ ap (take n) (sym (drop-map f d edits)) in
        taken_behind n (subst (λ run. AreDone step run mid new) part e)

    refused_behind : d ≤ length xs → (i : ℕ) (refusal : EditRefusal) → edited_from step 0 (drop d xs) mid ≡ Err (i, refusal, new) → edited_from step 0 xs old ≡ Err (d + i, refusal, new)
    refused_behind inside i refusal e =
        ap (λ t. edited_from step 0 t old) (sym (take-append-drop d xs)) ∙ edited_from-behind (take d xs) (drop d xs) old mid h ∙ ap (shifted (length (take d xs))) e
        ∙ ap (λ n. shifted n (Err (i, refusal, new))) (length-take-le d xs inside)

    stops_at_behind : d ≤ length xs → (i : ℕ) (fault : EditFault) → StopsAt step (drop d xs) mid new i fault → StopsAt step xs old new (d + i) fault
    stops_at_behind inside i NoAuthority e = refused_behind inside i model.NoAuthority e
    stops_at_behind inside i SchemeNeeded e = refused_behind inside i model.SchemeNeeded e
    stops_at_behind inside i Memory e = (taken_behind i e.0, subst (λ o. IsSomeAnd o (λ edit. Refuses step edit new Memory)) (sym (slice_get_behind xs d i)) e.1)

    -- or one of them cannot be done
    pub stops_behind : d ≤ length edits → (i : ℕ) (fault : EditFault) → StopsAt step (map f (take (length edits - d) (drop d edits))) mid new i fault → StopsAt step xs old new (d + i) fault
    stops_behind inside i fault e =
        let size = length-map edits f in
        let rest = ap (map f) (take_rest edits d) ∙ sym (drop-map f d edits) in
        stops_at_behind (omega arith) i fault (subst (λ run. StopsAt step run mid new i fault) rest e)
