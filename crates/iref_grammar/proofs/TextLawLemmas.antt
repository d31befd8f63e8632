-- The laws of the answer, for references that are read from their texts.
use Rattle.std.proofs.Common.{◌≡◌, ◌≢◌, ◌≤◌, true, length, ◌∙◌, subst, Some, None}
use Rattle.iref_grammar.specs.{Characters.{CharTests}, Rules.{Text}}
use Rattle.iref_grammar.specs.Reference.{ReferenceValue, spell, read_reference, is_readable, is_reference}
use Rattle.iref_grammar.proofs.{ReferenceCutLemmas.{read_reference-spelled}, ReadableLemmas.{readable_read}}
use Rattle.iref_grammar.specs.{Resolution.{resolved}, Relativized.{relativized}}
use Rattle.iref_grammar.specs.RelativizedLaws.{AreReadable, LeadsExactly}
use Rattle.iref_grammar.proofs.ExactLemmas.{relativized-exact}
use Rattle.iref_grammar.proofs.CoveredLemmas.{exact_value, relativized-none, relativized-shortest}
use Rattle.iref_grammar.proofs.ReadableAnswerLemmas.{relativized-readable}

text-readable : (set : CharTests) (text : Text) → is_reference set text ≡ true → is_readable set (read_reference text) ≡ true
unfolding is_reference
text-readable set text h = h

module _ (set : CharTests) (target base : ReferenceValue) where
  -- the answer is read back
  pub relativized-read_back : (r : ReferenceValue) → AreReadable set target base → relativized target base ≡ Some r → read_reference (spell r) ≡ r
  relativized-read_back r are some = readable_read set are.characters r (relativized-readable set target base r are.readable_target some)

  -- so what is read leads to the text
  pub relativized-read : (r : ReferenceValue) → AreReadable set target base → relativized target base ≡ Some r → LeadsExactly base (read_reference (spell r)) target
  relativized-read r are some = (λ i. spell (resolved base (relativized-read_back r are some i))) ∙ relativized-exact target base r some

  -- and the answer to the target itself
  pub relativized-leads : (r : ReferenceValue) → AreReadable set target base → relativized target base ≡ Some r → resolved base r ≡ target
  relativized-leads r are some = exact_value set target base r are (relativized-readable set target base r are.readable_target some) (relativized-exact target base r some)

  pub relativized-none_text : (text : Text) → AreReadable set target base → relativized target base ≡ None → is_reference set text ≡ true → spell (resolved base (read_reference text)) ≢ spell target
  relativized-none_text text are none h = relativized-none set target base (read_reference text) are none (text-readable set text h)

  pub relativized-shortest_text : (r : ReferenceValue) (text : Text) → AreReadable set target base → relativized target base ≡ Some r → is_reference set text ≡ true → LeadsExactly base (read_reference text) target → length (spell r) ≤ length text
  relativized-shortest_text r text are some h leads =
      subst (λ other. length (spell r) ≤ length other) (read_reference-spelled text) (relativized-shortest set target base r (read_reference text) are some (text-readable set text h) leads)
