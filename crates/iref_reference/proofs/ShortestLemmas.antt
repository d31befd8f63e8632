-- What is known of the shortest reference that leads to a text.
use Rattle.std.proofs.{Common.{◌≡◌, ◌≤◌, Bool, true, ap, length, refl, subst, sym, ◌∙◌, true≢false, Option, None, Some, is_some, option_map}, lemmas.Option.{same_Some}}
use Rattle.iref_grammar.specs.{Characters.{AreAboveAscii, CharTests}, Rules.{Text}}
use Rattle.iref_grammar.specs.ComponentTexts.{ComponentTexts, spell_components}
use Rattle.iref_grammar.specs.Reference.{ReferenceValue, is_readable, is_reference, read_reference, spell}
use Rattle.iref_grammar.proofs.ReferenceCutLemmas.{read_reference-spelled}
use Rattle.iref_grammar.specs.{Relativized.{relativized}, RelativizedChoice.{chosen}, RelativizedLaws.{AreReadable}}
use Rattle.iref_grammar.proofs.{ChosenLemmas.{relativized-chosen}, ExactLemmas.{relativized-exact}}
use Rattle.iref_grammar.proofs.ReadableAnswerLemmas.{relativized-readable}
use Rattle.iref_grammar.proofs.TextLawLemmas.{relativized-none_text, relativized-shortest_text}
use Rattle.iref_reference_text.specs.MeasuredReferences.{IsComposed, IsReady, measured_components, spell_texts}
use Rattle.iref_reference_text.specs.declared.measured.MeasuredReference.{MeasuredReference}
use Rattle.iref_reference_text.proofs.MeasuredLemmas.{composes}
use Rattle.iref_reference.specs.Shortest.{IsRelativized, NoneIsShorter, NoneLeads, led_text}

-- ---- the choice, composed

-- these are the components of the value that is there
record IsOf (o : Option ReferenceValue) (x : ComponentTexts) : Type 0 where
  value : ReferenceValue
  there : o ≡ Some value
  spelled : x ≡ spell_components value

value_there : (o : Option ReferenceValue) (x : ComponentTexts) → Some x ≡ option_map spell_components o → IsOf o x
value_there None x e = absurd (true≢false (ap is_some e))
value_there (Some r) x e = record { value = r; there = refl; spelled = same_Some _ _ e }

no_value : (o : Option ReferenceValue) → ◌≡◌ {A = Option ComponentTexts} None (option_map spell_components o) → o ≡ None
no_value None e = refl
no_value (Some r) e = absurd (true≢false (sym (ap is_some e)))

-- a target with a scheme and its base, both readable
pub record AreFull (set : CharTests) (t b : ReferenceValue) : Type 0 where
  pub readable : AreReadable set t b
  pub full : is_some t.scheme ≡ true

pub are_full : (set : CharTests) → AreAboveAscii set → (t b : ReferenceValue) → is_readable set t ≡ true → is_readable set b ≡ true → is_some t.scheme ≡ true → AreFull set t b
are_full set above t b readable base full = record {
  readable = record { characters = above; readable_target = readable; readable_base = base };
  full = full;
}

-- a rule of all schemes allows the text, and it spells the answer
pub record ComposesAnswer (test : Text → Bool) (m : MeasuredReference) (t b : ReferenceValue) : Type 0 where
  pub composed : IsComposed test m
  pub answer : IsRelativized t b (Some (spell_texts (measured_components m)))

pub composes_answer : (set : CharTests) (test : Text → Bool) (allows : Option Text → Bool)
    → ((text : Text) → is_reference set text ≡ true → allows (read_reference text).scheme ≡ true → test text ≡ true)
    → ((scheme : Option Text) → allows scheme ≡ true)
    → (m : MeasuredReference) (t b : ReferenceValue) → AreFull set t b → IsReady m → Some (measured_components m) ≡ option_map spell_components (chosen t b)
    → ComposesAnswer test m t b
composes_answer set test allows allowed all m t b are ready e =
    let found = value_there (chosen t b) (measured_components m) e in
    let some : relativized t b ≡ Some found.value = relativized-chosen set t b are.readable are.full ∙ found.there in
    let readable = relativized-readable set t b found.value are.readable.readable_target some in
    let made = composes set are.readable.characters test allows allowed m found.value ready found.spelled readable (all found.value.scheme) in
    record {
      composed = made.composed;
      answer = (some ∙ ap (λ r. Some r) (sym made.spelled.1), made.spelled.0 ∙ ap spell (sym made.spelled.1));
    }

pub no_answer : (set : CharTests) (t b : ReferenceValue) → AreFull set t b → ◌≡◌ {A = Option ComponentTexts} None (option_map spell_components (chosen t b)) → IsRelativized t b None
no_answer set t b are e = relativized-chosen set t b are.readable are.full ∙ no_value (chosen t b) e

-- ---- the promises, by the texts

module _ (set : CharTests) (target base : Text) (are : AreReadable set (read_reference target) (read_reference base)) where
  abbrev answer_is : Text → Type 0
  answer_is answer = relativized (read_reference target) (read_reference base) ≡ Some (read_reference answer)

  pub answer_leads : (answer : Text) → answer_is answer → led_text base answer ≡ target
  answer_leads answer some = relativized-exact (read_reference target) (read_reference base) (read_reference answer) some ∙ read_reference-spelled target

  pub none_leads : relativized (read_reference target) (read_reference base) ≡ None → NoneLeads set target base
  none_leads none text h e = relativized-none_text set (read_reference target) (read_reference base) text are none h (e ∙ sym (read_reference-spelled target))

  pub none_is_shorter : (answer : Text) → answer_is answer → NoneIsShorter set target base answer
  none_is_shorter answer some text h e =
      subst (λ spelled. length spelled ≤ length text) (read_reference-spelled answer)
      (relativized-shortest_text set (read_reference target) (read_reference base) (read_reference answer) text are some h (e ∙ sym (read_reference-spelled target)))
