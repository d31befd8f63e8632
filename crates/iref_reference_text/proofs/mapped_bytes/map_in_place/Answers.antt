use Rattle.std.proofs.Common.{◌≡◌, ℕ, ◌+◌, ◌*◌, ◌≤◌, ◌++◌, length, take, ap, sym, ◌∙◌, arith, take-append-drop}
use Rattle.std.proofs.{lemmas.Grind.{common_steps}, Math.ListN.{drop_of_length-le}, lemmas.List.{append-nil}}
use Rattle.std.proofs.Math.Seq.{take-append_seam}
use Rattle.iref_grammar.specs.Rules.{Text}
use Rattle.iref_grammar.specs.Mapping.{mapped, count_escaped}
use Rattle.iref_grammar.proofs.MappedLemmas.{length-mapped}
use Rattle.iref_reference_text.proofs.mapped_bytes.map_in_place.Goals as goal

all_taken : (xs : Text) (n : ℕ) → length xs ≤ n → take n xs ≡ xs
all_taken xs n h = sym (append-nil (take n xs)) ∙ ap (λ t. take n xs ++ t) (sym (drop_of_length-le xs h)) ∙ take-append-drop n xs

-- the text, and room for its mapping
grown : (old room now : Text) (from count : ℕ) → from ≡ length old → count ≡ count_escaped old → now ≡ take (from + 2 * count) old ++ room → length now ≡ from + 2 * count
    → length now ≡ length (mapped (take from now))
grown old room now from count f k e long =
    let whole : now ≡ old ++ room = e ∙ ap (λ t. t ++ room) (all_taken old (from + 2 * count) (omega arith)) in
    let front : take from now ≡ old = (λ i. take (f i) (whole i)) ∙ take-append_seam old room in
    long ∙ (λ i. f i + 2 * k i) ∙ sym (ap (λ t. length (mapped t)) front ∙ length-mapped old)

pub map_to_the_end-requires-clause-room : goal.map_to_the_end-requires-clause-room
map_to_the_end-requires-clause-room c = grind (arith, common_steps, grown)
