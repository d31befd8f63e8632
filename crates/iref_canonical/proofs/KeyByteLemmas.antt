-- The last bytes of the keys of components.
use Rattle.std.proofs.{Common.{◌≡◌, ℕ, [], ◌∷◌, ◌++◌, length, ◌∙◌, ap, arith, length-append}, lemmas.List.{map-append}}
use Rattle.std.specs.{Char.{to_ascii_lowercase}, Str.{str_to_ascii_lowercase}}
use Rattle.percent_encoding.specs.Percent.{percent_decode}
use Rattle.percent_encoding.proofs.PercentLemmas.{percent_decode-nil}
use Rattle.iref_grammar.specs.Rules.{Text}
use Rattle.iref_canonical.specs.Decoded.{SplitsLast}

pub decoded-none : (text : Text) → text ≡ [] → percent_decode text ≡ []
decoded-none text e = ap percent_decode e ∙ percent_decode-nil

pub lower-splits : (text front : Text) (last : ℕ) → text ≡ front ++ last ∷ [] → SplitsLast str_to_ascii_lowercase text front (to_ascii_lowercase last)
lower-splits text front last e = record {
  split = ap str_to_ascii_lowercase e ∙ map-append to_ascii_lowercase front (last ∷ []);
  shorter = grind (arith, length-append);
}

pub same-splits : (text front : Text) (last : ℕ) → text ≡ front ++ last ∷ [] → SplitsLast (λ t. t) text front last
same-splits text front last e = record { split = e; shorter = grind (arith, length-append) }

pub ruleset splits = (decoded-none, lower-splits, same-splits)
