-- What an edit by texts of an iterator makes where its last step is to close the path.
use Rattle.std.proofs.Common.{List, true, Option, None, Result, Ok, Err, MatchResult, ◌≡◌, refl}
use Rattle.std.specs.{Borrow.{Bor}, Iterator.{Drains}, List.{All}, Result.{result_or}}
use Rattle.iref_grammar.specs.{Characters.{CharTests}, Rules.{Text}}
use Rattle.iref_fault.specs.declared.edit.TryError.TheVariants.{Memory}
use Rattle.iref_component.specs.{Appends.{IsSegmentText, item_texts, ListEdit, TriesAppends}, PathEdits.{PathStep}}

-- all texts were taken, and the path is closed if there is memory for it
pub tries_to_close : {U S V F : Type 0} (edit : ListEdit) (set : CharTests) (becomes : U → S → Type 0) (steps : S → Option (Bor Text) → S → Type 0) (source : U) (iterator : S) (items : List (Bor Text)) (Becomes : PathStep → Type 0) (result : Result V F)
    → becomes source iterator → Drains steps iterator items → All (IsSegmentText set) items → edit.closes (item_texts items) ≡ true
    → MatchResult result (λ _. Becomes (λ context. edit.whole context (item_texts items))) (λ _. Becomes (λ context. edit.before context (item_texts items)))
    → TriesAppends edit set becomes steps source Becomes (result_or result (Err Memory))
tries_to_close edit set becomes steps source iterator items Becomes (Ok value) given drains all closes holds = (iterator, items, given, drains, (all, holds))
tries_to_close edit set becomes steps source iterator items Becomes (Err error) given drains all closes holds = (iterator, items, None, drains.0, given, drains.1, (all, (refl, closes), holds))
