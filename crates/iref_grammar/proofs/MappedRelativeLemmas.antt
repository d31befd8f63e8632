-- Relative references commute with the mapping.
use Rattle.std.proofs.Common.{arith, ◌≡◌, Bool, true, false, ◌&&◌, List, [], ◌∷◌, map, refl, sym, ◌∙◌, ap, bytes_eq, if◌then◌else◌}
use Rattle.std.proofs.{lemmas.Grind.{common_steps}, lemmas.List.{length-map, drop-map}}
use Rattle.std.specs.List.{list_all, common_prefix_len}
use Rattle.iref_grammar.specs.{Characters.{CharTests, AreAboveAscii}, Rules.{Text}, Texts.{is_empty, all_but_last}}
use Rattle.iref_grammar.specs.{Tests.{is_segment}, PathValue.{PathValue}, Contexts.{alone}}
use Rattle.iref_grammar.specs.Reference.{ReferenceValue, IsReadable}
use Rattle.iref_grammar.proofs.{TextLemmas.{first_of_both, second_of_both}, LeafLemmas.{Decides-is_segment}}
use Rattle.iref_grammar.proofs.{ReadablePartsLemmas.{readable_parts}, ReferenceRuleLemmas.{Decides-is_readable}}
use Rattle.iref_grammar.specs.{Guard.{guarded}, NormalList.{normal, normal_segments, staying_names}}
use Rattle.iref_grammar.specs.PathSuffix.{same_decoded}
use Rattle.iref_grammar.specs.Relative.{have_same_authority, schemes_agree, is_same_place, last_or_empty, steps_between, directory_names, leading_path, with_only_path, relative_to}
use Rattle.iref_grammar.specs.Mapping.{mapped, mapped_path, mapped_reference}
use Rattle.iref_grammar.proofs.{NormalGrammarLemmas.{takes_dots}, StepSegmentLemmas.{in-shortened, normal-in}}
use Rattle.iref_grammar.proofs.{MappedLemmas.{mapped-nil}, MappedMarkLemmas.{is_empty-map, is_some-map}}
use Rattle.iref_grammar.proofs.MappedNormalLemmas.{parents-map, staying_names-map, normal_segments-map}
use Rattle.iref_grammar.proofs.MappedKeyLemmas.{decoded_in_rule, path_key-mapped, key-mapped}
use Rattle.iref_grammar.proofs.MappedResolutionLemmas.{at_if, normal-mapped, guarded-mapped, all_but_last-map}

-- ---- lists

last_or_empty-map : (ss : List Text) → last_or_empty (map mapped ss) ≡ mapped (last_or_empty ss)
last_or_empty-map [] = sym mapped-nil
last_or_empty-map (s ∷ ss) = (λ i. if is_empty-map ss i then mapped s else last_or_empty-map ss i) ∙ at_if mapped (is_empty ss) s (last_or_empty ss)

-- what all segments pass, those that stay pass
names_pass : (test : Text → Bool) (ss : List Text) → list_all test ss ≡ true → list_all test (staying_names ss) ≡ true
unfolding staying_names
names_pass test [] h = refl
names_pass test (s ∷ ss) h = grind (arith, common_steps, names_pass test ss)

module _ (set : CharTests) (above : AreAboveAscii set) where
  same_decoded-mapped : (s t : Text) → is_segment set s ≡ true → is_segment set t ≡ true → same_decoded (mapped s) (mapped t) ≡ same_decoded s t
  same_decoded-mapped s t h k =
      λ i. bytes_eq (decoded_in_rule _ s ((Decides-is_segment set above s).0 h) i) (decoded_in_rule _ t ((Decides-is_segment set above t).0 k) i)

  common-map : (ss ts : List Text) → list_all (is_segment set) ss ≡ true → list_all (is_segment set) ts ≡ true → common_prefix_len same_decoded (map mapped ss) (map mapped ts) ≡ common_prefix_len same_decoded ss ts
  common-map [] ts h k = refl
  common-map (s ∷ ss) [] h k = refl
  common-map (s ∷ ss) (t ∷ ts) h k = grind (arith, common_steps, same_decoded-mapped, first_of_both, second_of_both, common-map ss ts)

  steps_between-map : (directory list : List Text) → list_all (is_segment set) directory ≡ true → list_all (is_segment set) list ≡ true
      → steps_between (map mapped directory) (map mapped list) ≡ map mapped (steps_between directory list)
  steps_between-map directory list h k = grind (arith, common_steps, all_but_last-map, common-map, in-shortened, length-map, last_or_empty-map, parents-map, drop-map)

  -- ---- a readable target and base

  module _ (target base : ReferenceValue) (t : IsReadable set target) (b : IsReadable set base) where
    target_segments : list_all (is_segment set) target.path.segments ≡ true
    target_segments = (readable_parts set target ((Decides-is_readable set above target).1 t)).segments

    base_segments : list_all (is_segment set) base.path.segments ≡ true
    base_segments = (readable_parts set base ((Decides-is_readable set above base).1 b)).segments

    agree-mapped : (schemes_agree (mapped_reference target) (mapped_reference base) && have_same_authority (mapped_reference target) (mapped_reference base)) ≡ (schemes_agree target base && have_same_authority target base)
    agree-mapped = grind (arith, common_steps, key-mapped, is_some-map)

    same_place-mapped : is_same_place (mapped_reference target) (mapped_reference base) ≡ is_same_place target base
    same_place-mapped = grind (arith, common_steps, normal_segments-map, is_empty-map, path_key-mapped, target_segments, base_segments, is_some-map)

    directory-mapped : directory_names (mapped_path base.path) ≡ map mapped (directory_names base.path)
    directory-mapped = ap staying_names (all_but_last-map base.path.segments) ∙ staying_names-map (all_but_last base.path.segments)

    leading-mapped : leading_path (mapped_reference target) (mapped_reference base) ≡ mapped_path (leading_path target base)
    leading-mapped =
        let steps = (λ i. steps_between (directory-mapped i) (normal_segments-map target.path i))
        ∙ steps_between-map (directory_names base.path) (normal_segments target.path) (names_pass (is_segment set) (all_but_last base.path.segments) (in-shortened (is_segment set) base.path.segments base_segments))
        (normal-in (is_segment set) (takes_dots set) target.path target_segments) in
        (λ i. guarded alone (if base.path.absolute then record { absolute = false; segments = steps i } else normal-mapped target.path i))
        ∙ ap (guarded alone) (at_if mapped_path base.path.absolute (record { absolute = false; segments = steps_between (directory_names base.path) (normal_segments target.path) }) (normal target.path))
        ∙ guarded-mapped alone (if base.path.absolute then record { absolute = false; segments = steps_between (directory_names base.path) (normal_segments target.path) } else normal target.path)

    pub relative-mapped : relative_to (mapped_reference target) (mapped_reference base) ≡ mapped_reference (relative_to target base)
    unfolding relative_to
    relative-mapped =
        (λ i. if agree-mapped i
        then (if same_place-mapped i then with_only_path nowhere (mapped_reference target)
        else (if target.path.absolute then with_only_path (leading-mapped i) (mapped_reference target) else mapped_reference target))
        else mapped_reference target)
        ∙ (λ i. if schemes_agree target base && have_same_authority target base
        then (if is_same_place target base then mapped_reference (with_only_path nowhere target)
        else at_if mapped_reference target.path.absolute (with_only_path (leading_path target base) target) target i)
        else mapped_reference target)
        ∙ (λ i. if schemes_agree target base && have_same_authority target base
        then at_if mapped_reference (is_same_place target base) (with_only_path nowhere target) (if target.path.absolute then with_only_path (leading_path target base) target else target) i
        else mapped_reference target)
        ∙ at_if mapped_reference (schemes_agree target base && have_same_authority target base)
        (if is_same_place target base then with_only_path nowhere target else (if target.path.absolute then with_only_path (leading_path target base) target else target)) target
      where
        nowhere : PathValue
        nowhere = record { absolute = false; segments = [] }
