-- The components of a reference that is not written yet.
use Rattle.std.specs.{Prelude.{Bool, [], ◌∷◌, ◌++◌, codes}, Option.{option_copied}}
use Rattle.iref_grammar.specs.{Rules.{Text}, Grammar.{colon, question_mark, hash_sign}, Texts.{part_then, then_part}}
use Rattle.iref_grammar.specs.ComponentTexts.{ComponentTexts}
use Rattle.iref_path.specs.MeasuredPaths.{IsMeasured, measured_text}
use Rattle.iref_reference_text.specs.ComponentLengths.{HasLengths, lengths_of_texts}
use Rattle.iref_reference_text.specs.declared.measured.MeasuredReference.{MeasuredReference}

abbrev pub measured_components : MeasuredReference → ComponentTexts
measured_components t = record {
  scheme = option_copied t.scheme;
  authority = option_copied t.authority;
  path = measured_text t.path;
  query = option_copied t.query;
  fragment = option_copied t.fragment;
}

-- the path is measured
abbrev pub IsReady : MeasuredReference → Type 0
IsReady t = IsMeasured t.path

-- section 5.3
unfoldable pub spell_texts : ComponentTexts → Text
spell_texts t =
    part_then (colon ∷ []) t.scheme ++ then_part (codes "//") t.authority ++ t.path
    ++ then_part (question_mark ∷ []) t.query ++ then_part (hash_sign ∷ []) t.fragment

-- and the text is in the rule, and read as components of these lengths
pub record IsComposed (test : Text → Bool) (t : MeasuredReference) : Type 0 where
  pub ready : IsReady t
  pub leaves : HasLengths test (lengths_of_texts (measured_components t)) (spell_texts (measured_components t))
