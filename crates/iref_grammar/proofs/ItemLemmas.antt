-- The normal list is the items that are read from the back, unless these are one empty segment.
use Rattle.std.proofs.Common.{arith, ◌≡◌, Bool, true, false, not, List, [], ◌∷◌, ◌++◌, refl, sym, ◌∙◌, ap}
use Rattle.std.proofs.lemmas.Grind.{common_steps}
use Rattle.iref_grammar.specs.{Rules.{Text}, Texts.{is_empty}, PathValue.{PathValue}}
use Rattle.iref_grammar.specs.NormalList.{is_dot_dot, is_name, ends_in_dots, without_lone_empty, kept_segments, normal_segments}
use Rattle.iref_grammar.specs.NormalReading.{open_before, staying_before, leading_parents, closing, items}
use Rattle.iref_grammar.proofs.{NormalLemmas.{excess-is}, StayingLemmas.{open_parents-is, staying_names-is}}
use Rattle.iref_grammar.proofs.SettledLemmas.{ends-append, last_stays}

-- a name is no `..`
pub name_no_parent : (s : Text) → is_name s ≡ true → is_dot_dot s ≡ false
name_no_parent s h = grind arith

-- the last segment decides whether a list ends in `.` or `..`
pub ends-last : (front : List Text) (s : Text) → ends_in_dots (front ++ s ∷ []) ≡ not (is_name s)
ends-last front s = ends-append front s []

kept-read : (absolute : Bool) (segments : List Text) → kept_segments (record { absolute = absolute; segments = segments }) ≡ leading_parents absolute (open_before segments 0) ++ staying_before segments 0
kept-read absolute segments = grind (arith, common_steps, excess-is, open_parents-is, staying_names-is)

-- the normal list is the items, unless they are one empty segment
pub normal_segments-is : (p : PathValue) → normal_segments p ≡ without_lone_empty (items p)
unfolding normal_segments
normal_segments-is p = grind (arith, common_steps, kept-read)

-- a list that is not empty has an item that is no leading `..`
pub some_name : (s : Text) (rest : List Text) → is_empty (staying_before (s ∷ rest) 0 ++ closing (ends_in_dots (s ∷ rest))) ≡ false
some_name s rest = by (ends_in_dots (s ∷ rest)) refl (staying_before (s ∷ rest) 0) (λ e. ap is_empty (sym (staying_names-is (s ∷ rest))) ∙ last_stays s rest e)
  where
    by : (ends : Bool) → ends_in_dots (s ∷ rest) ≡ ends → (xs : List Text) → (ends_in_dots (s ∷ rest) ≡ false → is_empty xs ≡ false) → is_empty (xs ++ closing ends) ≡ false
    by ends e xs h = grind arith
