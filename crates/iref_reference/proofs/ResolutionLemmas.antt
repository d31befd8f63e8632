-- What a reference resolves to against a URI is a URI.
use Rattle.std.proofs.{Common.{◌≡◌, true, arith, is_some}, lemmas.Result.{IfOk-weaker}}
use Rattle.iref_grammar.specs.{Characters.{AreAboveAscii, CharTests}, Rules.{Text}}
use Rattle.iref_grammar.specs.Reference.{ReferenceValue, is_uri, is_readable, is_reference, read_reference}
use Rattle.iref_grammar.proofs.ComponentLemmas.{reference_if_uri, scheme_if_uri, uri_if_scheme}
use Rattle.iref_grammar.proofs.ReferenceCutLemmas.{read_reference-spelled}
use Rattle.iref_grammar.specs.Resolution.{resolved}
use Rattle.iref_grammar.proofs.ResolvedLemmas.{resolved-readable}
use Rattle.iref_reference_text.specs.{ComponentLengths.{HasLengths}, Fronts.{IsSpelled}}
use Rattle.iref_reference_text.specs.declared.lengths.Lengths.{Lengths}
use Rattle.iref_reference_text.proofs.EditLemmas.{IsStep, is_step}
use Rattle.iref_reference.specs.Resolutions.{IsResolved}

pub scheme_of_base : (base r : ReferenceValue) → is_some base.scheme ≡ true → is_some (resolved base r).scheme ≡ true
unfolding resolved
scheme_of_base base r h = grind arith

pub resolved-scheme : (set : CharTests) (text : Text) (base r : ReferenceValue) → base ≡ read_reference text → is_uri set text ≡ true → is_some (resolved base r).scheme ≡ true
resolved-scheme set text base r e h = grind (arith, scheme_of_base, scheme_if_uri)

pub readable_slices : (set : CharTests) (text : Text) (value : ReferenceValue) → value ≡ read_reference text → is_reference set text ≡ true → is_readable set value ≡ true
unfolding is_reference
readable_slices set text value e h = grind arith

-- ---- a text that spells what a reference resolves to

module _ (set : CharTests) (above : AreAboveAscii set) (base text : Text) (b r : ReferenceValue)
    (base_is : b ≡ read_reference base) (text_is : r ≡ read_reference text) (h : is_uri set base ≡ true) (k : is_reference set text ≡ true) where
  module _ (whole : Text) (lengths : Lengths) (spelled : IsSpelled (resolved b r) whole lengths) where
    whole_step : IsStep (is_uri set) whole (resolved b r)
    whole_step =
        is_step set above (is_uri set) is_some (uri_if_scheme set) whole (resolved b r)
        spelled.text (grind (arith, resolved-readable, readable_slices, reference_if_uri)) (resolved-scheme set base b r base_is h)

    -- is in the rule, with components of these lengths
    pub whole-leaves : HasLengths (is_uri set) lengths whole
    whole-leaves = grind (arith, whole_step)

    -- and is what the reference resolves to
    pub whole-resolved : IsResolved base text whole
    whole-resolved = grind (arith, read_reference-spelled, whole_step)

pub ruleset anew = (IfOk-weaker, resolved-scheme)
