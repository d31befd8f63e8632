-- The lines that are wrong, told one after the other.
use Rattle.std.proofs.Common.{◌≡◌, ℕ, ◌+◌, List, [], ◌∷◌, ◌++◌, refl, sym, ◌∙◌, ap, subst, map, append_assoc, Some, None, option_map}
use Rattle.std.proofs.{lemmas.List.{append-nil, map-append}, lemmas.Iterator.Splits.{YieldsList-from_lines}}
use Rattle.std.specs.{Borrow.{Bor}, Iterator.{AlwaysYields}, Option.{option_to_list}}
use Rattle.std.specs.{Str.Iter.{lines_rest, lines_steps}, Str.Lines.{lines}, declared.str.Lines.{Lines}}
use Rattle.iref.specs.{BytePlaces.{fault_value}, Characters.{iri_chars}, Faults.{FaultValue, fault_of_reference}}
use Rattle.iref.specs.Rules.{Text}
use Rattle.iref_examples.specs.{WrongLines.{line_and_fault, wrong_lines}, declared.wrong_lines.WrongLine.{WrongLine}}

-- what is told of the lines that were read, of which this was the last number, and of those that are left, is what is told of all
pub record AreTold (text : Text) (told : List (ℕ × FaultValue)) (number : ℕ) (left : Lines) : Type 0 where
  pub rest : List Text
  pub yields : AlwaysYields lines_steps (λ x. x.now) left rest
  pub all : told ++ wrong_lines (number + 1) rest ≡ wrong_lines 1 (lines text)

pub none_told : (text : Text) (left : Lines) → lines_rest left ≡ text → AreTold text [] 0 left
none_told text left begins = record { rest = lines text; yields = (YieldsList-from_lines text begins).runs; all = refl }

-- one more line is read
line_told : (text : Text) (told : List (ℕ × FaultValue)) (number : ℕ) (left after : Lines) (line : Bor Text) → AreTold text told number left → lines_steps left (Some line) after
    → AreTold text (told ++ option_to_list (option_map (λ fault. (number + 1, fault)) (fault_of_reference iri_chars line.now))) (number + 1) after
line_told text told number left after line h step = by h.rest h.yields h.all
  where
    by : (rest : List Text) → AlwaysYields lines_steps (λ (x : Bor Text). x.now) left rest → told ++ wrong_lines (number + 1) rest ≡ wrong_lines 1 (lines text)
        → AreTold text (told ++ option_to_list (option_map (λ fault. (number + 1, fault)) (fault_of_reference iri_chars line.now))) (number + 1) after
    by [] yields all = absurd (yields line after step)
    by (first ∷ rest) yields all =
        let next = yields.1 line after step in
        record {
          rest = rest;
          yields = next.1;
          all =
              append_assoc told _ (wrong_lines (number + 1 + 1) rest)
              ∙ ap (λ t. told ++ (option_to_list (option_map (λ fault. (number + 1, fault)) (fault_of_reference iri_chars t)) ++ wrong_lines (number + 1 + 1) rest)) next.0 ∙ all;
        }

-- it is a reference
pub right_line : (text : Text) (told : List (ℕ × FaultValue)) (number : ℕ) (left after : Lines) (line : Bor Text) → AreTold text told number left → lines_steps left (Some line) after
    → None ≡ fault_of_reference iri_chars line.now → AreTold text told (number + 1) after
right_line text told number left after line h step none =
    subst (λ all. AreTold text all (number + 1) after)
    (ap (λ r. told ++ option_to_list (option_map (λ fault. (number + 1, fault)) r)) (sym none) ∙ append-nil told)
    (line_told text told number left after line h step)

-- it is none
pub wrong_line : (text : Text) (wrong more : List WrongLine) (number : ℕ) (left after : Lines) (line : Bor Text) (found : WrongLine) → AreTold text (map line_and_fault wrong) number left
    → lines_steps left (Some line) after → found.number ≡ number + 1 → Some (fault_value found.fault) ≡ fault_of_reference iri_chars line.now → more ≡ wrong ++ found ∷ []
    → AreTold text (map line_and_fault more) (number + 1) after
wrong_line text wrong more number left after line found h step numbered some pushed =
    subst (λ all. AreTold text all (number + 1) after)
    (ap (λ r. map line_and_fault wrong ++ option_to_list (option_map (λ fault. (number + 1, fault)) r)) (sym some)
    ∙ ap (λ n. map line_and_fault wrong ++ (n, fault_value found.fault) ∷ []) (sym numbered)
    ∙ sym (map-append line_and_fault wrong (found ∷ [])) ∙ ap (map line_and_fault) (sym pushed))
    (line_told text (map line_and_fault wrong) number left after line h step)

-- no line is left
pub all_told : (text : Text) (told : List (ℕ × FaultValue)) (number : ℕ) (left after : Lines) → AreTold text told number left → lines_steps left None after → told ≡ wrong_lines 1 (lines text)
all_told text told number left after h step = by h.rest h.yields h.all
  where
    by : (rest : List Text) → AlwaysYields lines_steps (λ (x : Bor Text). x.now) left rest → told ++ wrong_lines (number + 1) rest ≡ wrong_lines 1 (lines text) → told ≡ wrong_lines 1 (lines text)
    by [] yields all = sym (append-nil told) ∙ all
    by (first ∷ rest) yields all = absurd (yields.0 after step)
