-- A scheme and its delimiter are a reference, in each rule that allows the scheme.
use Rattle.std.proofs.{Common.{◌≡◌, Bool, true, false, [], ◌∷◌, ◌++◌, refl, sym, Option, Some, None}, lemmas.List.{append-nil}}
use Rattle.iref_grammar.specs.{Characters.{CharTests, AreAboveAscii}, Rules.{Text}, Grammar.{colon}, Tests.{is_scheme}}
use Rattle.iref_grammar.specs.{PathValue.{spell_path}, Reference.{ReferenceValue, spell, read_reference, is_reference}}
use Rattle.iref_grammar.proofs.ReadablePartsLemmas.{readable_from}
use Rattle.iref_reference_text.proofs.EditLemmas.{is_step}

abbrev only_scheme : Text → ReferenceValue
only_scheme scheme = record {
  scheme = Some scheme;
  authority = None;
  path = record { absolute = false; segments = [] };
  query = None;
  fragment = None;
}

pub scheme_alone : (set : CharTests) → AreAboveAscii set → (test : Text → Bool) (allows : Option Text → Bool)
    → ((text : Text) → is_reference set text ≡ true → allows (read_reference text).scheme ≡ true → test text ≡ true)
    → (scheme : Text) → is_scheme scheme ≡ true → allows (Some scheme) ≡ true → test (scheme ++ colon ∷ []) ≡ true
unfolding spell spell_path
scheme_alone set above test allows allowed scheme h k =
    let readable = readable_from set (only_scheme scheme) (record { scheme = h; authority = refl; segments = refl; query = refl; fragment = refl; follows = refl; reads = refl }) in
    (is_step set above test allows allowed (scheme ++ colon ∷ []) (only_scheme scheme) (sym (simp append-nil)) readable k).leaves.in_rule
