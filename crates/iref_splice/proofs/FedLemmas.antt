-- The pieces of a text that a hasher reads, where they are cut.
use Rattle.std.proofs.Common.{◌≡◌, ℕ, ◌+◌, ◌<◌, ◌≤◌, [], ◌∷◌, ◌++◌, length, refl, sym, ◌∙◌, ap, arith, length-append}
use Rattle.std.proofs.{lemmas.Bool.Decides.{nat_tests}, lemmas.List.{append-nil}}
use Rattle.std.specs.Hash.{u8}
use Rattle.iref_grammar.specs.Rules.{Text}
use Rattle.iref_splice.specs.Fed.{fed_text, full_piece, next_piece, waiting_after, written_after}
use Rattle.iref_splice.specs.FedLaws.{waiting-both, written-both}

next-fits : (b : ℕ) (waiting : Text) → length waiting < 256 → next_piece b waiting ≡ b ∷ waiting
next-fits b waiting h = grind (arith, nat_tests)

none-full : (waiting : Text) → length waiting < 256 → full_piece waiting ≡ []
none-full waiting h = grind (arith, nat_tests)

next-full : (b : ℕ) (waiting : Text) → length waiting ≡ 256 → next_piece b waiting ≡ b ∷ []
next-full b waiting h = grind (arith, nat_tests)

one-full : (waiting : Text) → length waiting ≡ 256 → full_piece waiting ≡ waiting ∷ []
one-full waiting h = grind (arith, nat_tests)

-- what fits waits, and nothing is written
pub waiting-fits : (waiting text : Text) → length text + length waiting ≤ 256 → waiting_after waiting text ≡ text ++ waiting
unfolding waiting_after
waiting-fits waiting [] h = refl
waiting-fits waiting (b ∷ text) h =
    let rest = waiting-fits waiting text (omega arith) in
    ap (next_piece b) rest ∙ next-fits b (text ++ waiting) (omega (arith, length-append text waiting))

pub written-fits : (waiting text : Text) → length text + length waiting ≤ 256 → written_after waiting text ≡ []
unfolding written_after
written-fits waiting [] h = refl
written-fits waiting (b ∷ text) h =
    let rest = waiting-fits waiting text (omega arith) in
    (λ i. written-fits waiting text (omega arith) i ++ full_piece (rest i)) ∙ none-full (text ++ waiting) (omega (arith, length-append text waiting))

-- a full piece is written before more
waiting-full : (waiting : Text) (b : ℕ) (text : Text) → length waiting ≡ 256 → waiting_after waiting (b ∷ text) ≡ waiting_after [] (b ∷ text)
unfolding waiting_after
waiting-full waiting b [] h = next-full b waiting h ∙ sym (next-fits b [] (omega arith))
waiting-full waiting b (c ∷ text) h = ap (next_piece b) (waiting-full waiting c text h)

written-full : (waiting : Text) (b : ℕ) (text : Text) → length waiting ≡ 256 → written_after waiting (b ∷ text) ≡ waiting ∷ written_after [] (b ∷ text)
unfolding waiting_after written_after
written-full waiting b [] h = one-full waiting h ∙ ap (λ us. waiting ∷ us) (sym (none-full [] (omega arith)))
written-full waiting b (c ∷ text) h = λ i. written-full waiting c text h i ++ full_piece (waiting-full waiting c text h i)

-- more than fits: what fits makes a piece
pub waiting-cut : (waiting front back : Text) → length back + length waiting ≡ 256 → 0 < length front → waiting_after waiting (front ++ back) ≡ waiting_after [] front
waiting-cut waiting [] back h some = absurd (omega (arith, some))
waiting-cut waiting (b ∷ front) back h some =
    sym (waiting-both waiting (b ∷ front) back) ∙ ap (λ w. waiting_after w (b ∷ front)) (waiting-fits waiting back (omega (arith, h)))
    ∙ waiting-full (back ++ waiting) b front (length-append back waiting ∙ h)

pub written-cut : (waiting front back : Text) → length back + length waiting ≡ 256 → 0 < length front → written_after waiting (front ++ back) ≡ (back ++ waiting) ∷ written_after [] front
written-cut waiting [] back h some = absurd (omega (arith, some))
written-cut waiting (b ∷ front) back h some =
    sym (written-both waiting (b ∷ front) back)
    ∙ (λ i. written-fits waiting back (omega (arith, h)) i ++ written_after (waiting-fits waiting back (omega (arith, h)) i) (b ∷ front))
    ∙ written-full (back ++ waiting) b front (length-append back waiting ∙ h)

pub ruleset puts = (waiting-fits, written-fits, waiting-cut, written-cut)

-- a text that is one piece, and one from which a piece is cut
pub fed-one : (text : Text) → length text ≤ 256 → fed_text text ≡ text ∷ u8 255
unfolding fed_text
fed-one text h = (λ i. written-fits [] text (omega arith) i ++ waiting-fits [] text (omega arith) i ∷ u8 255) ∙ ap (λ t. t ∷ u8 255) (append-nil text)

pub fed-cut : (front back : Text) → length back ≡ 256 → 0 < length front → fed_text (front ++ back) ≡ back ∷ fed_text front
unfolding fed_text
fed-cut front back h some =
    (λ i. written-cut [] front back (omega (arith, h)) some i ++ waiting-cut [] front back (omega (arith, h)) some i ∷ u8 255)
    ∙ ap (λ t. t ∷ fed_text front) (append-nil back)

pub ruleset cuts = (fed-one, fed-cut)
