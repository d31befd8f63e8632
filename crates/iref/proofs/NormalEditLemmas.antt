-- A path that is known to be normal is not normalized again.
use Rattle.std.proofs.Common.{◌≡◌, Bool, true, Option, Ok, refl, ap, ◌∙◌, arith}
use Rattle.iref_grammar.specs.{Rules.{Text}, Contexts.{follows_authority}, PathValue.{PathValue}}
use Rattle.iref_grammar.specs.Reference.{ReferenceValue, context_of, read_reference}
use Rattle.iref_grammar.proofs.ContextLemmas.{read_follows}
use Rattle.iref_grammar.specs.{ComponentSteps.{with_path, with_path_step}, PathSteps.{normalized}}
use Rattle.iref_grammar.specs.Edits.{EditStep, Normalize, edited, edited_uri}
use Rattle.iref_grammar.proofs.{FitsLemmas.{replaced-fits}, NormalPathLemmas.{normalized-normalized}}
use Rattle.iref.specs.EditAnswers.{HasNormalPath, edited_in, is_normal_after}
use Rattle.iref.proofs.EditListLemmas.{kept_in}

-- to normalize it changes nothing
pub not_again : (allows : Option Text → Bool) (edit : EditStep) (r : ReferenceValue) → edit ≡ Normalize → HasNormalPath r → edited_in allows edit r ≡ Ok r
unfolding edited
not_again allows edit r e h = ap (λ step. edited_in allows step r) e ∙ kept_in allows Normalize r refl (λ i. Ok (record r { path = h i }))

normalized_path : (r : ReferenceValue) → follows_authority (context_of r) r.path ≡ true → HasNormalPath (with_path_step normalized r)
normalized_path r h = normalized-normalized (context_of r) r.path h

follows-with_path : (p : PathValue) (r : ReferenceValue) → follows_authority (context_of (with_path p r)) (with_path p r).path ≡ true
unfolding with_path
follows-with_path p r = grind (arith, replaced-fits (context_of r) p r.path)

by_edited : (edit : EditStep) (was : Bool) (r new : ReferenceValue) → follows_authority (context_of r) r.path ≡ true → (was ≡ true → HasNormalPath r) → edited edit r ≡ Ok new → is_normal_after edit was ≡ true → HasNormalPath new
unfolding edited
by_edited edit was r new f h e k = grind (arith, normalized_path, follows-with_path)

-- it is known of what an edit leaves
pub normal_after : (allows : Option Text → Bool) (edit : EditStep) (was : Bool) (text : Text) (new : ReferenceValue) → (was ≡ true → HasNormalPath (read_reference text)) → edited_in allows edit (read_reference text) ≡ Ok new
    → is_normal_after edit was ≡ true → HasNormalPath new
unfolding edited_uri
normal_after allows edit was text new h e k = grind (arith, by_edited edit was (read_reference text) new (read_follows text) h)
