-- Texts that are the same have one key.
use Rattle.std.proofs.{Common.{◌≡◌, true, Equal, sym, ap, ◌∙◌}, lemmas.Cmp.{tied_itself}}
use Rattle.std.proofs.lemmas.Slice.Eq.{bytes_eq-Decides}
use Rattle.std.specs.Str.{bytes_eq}
use Rattle.iref_grammar.specs.Rules.{Text}
use Rattle.iref_component.specs.Comparisons.{Comparison}

pub same_keys : (c : Comparison) (a b : Text) → bytes_eq a b ≡ true → Equal ≡ c.order (c.key a) (c.key b)
same_keys c a b same = sym (tied_itself c.total (c.key a)) ∙ ap (λ text. c.order (c.key a) (c.key text)) ((bytes_eq-Decides a b).0 same)
