-- Whether a text, or what it decodes to, has a certain character.
use Rattle.std.proofs.{Common.{◌≡◌, ℕ, false, ◌||◌, [], ◌∷◌, ◌++◌, ◌∙◌, ap, arith, ◌==◌}, lemmas.Bool.Decides.{nat_tests}}
use Rattle.std.specs.Char.{char_set_contains}
use Rattle.percent_encoding.specs.Percent.{percent_decode}
use Rattle.percent_encoding.proofs.PercentLemmas.{percent_decode-nil}
use Rattle.iref_grammar.specs.Rules.{Text}
use Rattle.iref_grammar.proofs.ComparisonLemmas.{empty-decoded}
use Rattle.iref_path.proofs.PathTextLemmas.{nothing}
use Rattle.iref_canonical.specs.Decoded.{SplitsLast}

pub contains-last : (front : Text) (last mark : ℕ) → char_set_contains (front ++ last ∷ []) mark ≡ (char_set_contains front mark || last == mark)
contains-last [] last mark = grind (arith, nat_tests)
contains-last (c ∷ front) last mark = grind (arith, nat_tests, contains-last front last mark)

pub decoded-contains : (text front : Text) (byte mark : ℕ) → SplitsLast percent_decode text front byte
    → char_set_contains (percent_decode text) mark ≡ (char_set_contains (percent_decode front) mark || byte == mark)
decoded-contains text front byte mark h = ap (λ t. char_set_contains t mark) h.split ∙ contains-last (percent_decode front) byte mark

pub nothing-contains : (text : Text) (mark : ℕ) → text ≡ [] → char_set_contains (percent_decode text) mark ≡ false
nothing-contains text mark e = ap (λ t. char_set_contains (percent_decode t) mark) e ∙ ap (λ t. char_set_contains t mark) percent_decode-nil

pub ruleset samples = (nothing, nothing-contains, empty-decoded)
