-- What is left of a path after a prefix: where it is there, and that it is a path.
use Rattle.std.proofs.Common.{◌≡◌, ℕ, ◌≤◌, true, false, List, [], ◌∷◌, length, take, drop, refl, ap, arith, ◌==◌, Some}
use Rattle.std.proofs.{lemmas.Bool.Decides.{nat_tests}, lemmas.List.{take-append-drop}}
use Rattle.std.proofs.lemmas.List.Sums.{common_prefix_len-le}
use Rattle.std.specs.List.{common_prefix_len}
use Rattle.iref_grammar.specs.{Characters.{CharTests, AreAboveAscii}, Contexts.{alone}}
use Rattle.iref_grammar.specs.{PathValue.{PathValue, read_path, spell_path}, Rules.{Text}, Grammar.{slash}}
use Rattle.iref_grammar.specs.{Tests.{is_path, is_segment}, Texts.{lacks}}
use Rattle.iref_grammar.proofs.PathLemmas.{read_path-reads}
use Rattle.iref_grammar.specs.{NormalList.{normal_segments}, PathSuffix.{is_decoded_beginning, path_suffix, same_decoded}}
use Rattle.iref_grammar.proofs.{LeadingLemmas.{all_drop}, NormalGrammarLemmas.{normal_in_grammar}}
use Rattle.iref_grammar.proofs.StepSegmentLemmas.{normal-in}
use Rattle.iref_path.specs.Spelling.{each_closed}
use Rattle.iref_path.proofs.SpellLemmas.{guarded-in_context, guarded-read, lacks_dots, size-append, normal_size-text}

-- a list is a beginning exactly where the common beginning is all of it
pub beginning-is : (xs ys : List Text) → is_decoded_beginning xs ys ≡ (common_prefix_len same_decoded xs ys == length xs)
beginning-is [] ys = refl
beginning-is (x ∷ xs) [] = grind (arith, nat_tests)
beginning-is (x ∷ xs) (y ∷ ys) = grind (arith, nat_tests, beginning-is xs ys)

-- what is left is a path, and read as it stands
pub suffix-reads : (set : CharTests) → AreAboveAscii set → (prefix : PathValue) (text : Text) (left : PathValue) → is_path set text ≡ true → path_suffix prefix (read_path text) ≡ Some left
    → (read_path (spell_path left) ≡ left) × (is_path set (spell_path left) ≡ true)
unfolding path_suffix
suffix-reads set above prefix text left h e =
    let n = length (normal_segments prefix) in
    let p = read_path text in
    let lack = all_drop (lacks slash) n (normal_segments p) (normal-in (lacks slash) lacks_dots p (read_path-reads text).segments) in
    let all = all_drop (is_segment set) n (normal_segments p) (normal_in_grammar set above text h (normal_segments p) refl) in
    let q : PathValue = record { absolute = false; segments = drop n (normal_segments p) } in
    grind (arith, guarded-read alone q lack, guarded-in_context set above alone q lack all)

-- a list without its first items is not longer
pub size-drop : (n : ℕ) (list : List Text) → length (each_closed (drop n list)) ≤ length (each_closed list)
size-drop n list = omega (arith, size-append (take n list) (drop n list), ap (λ xs. length (each_closed xs)) (take-append-drop n list))

pub ruleset beginnings = (common_prefix_len-le, normal_size-text, beginning-is, size-drop, nat_tests)
