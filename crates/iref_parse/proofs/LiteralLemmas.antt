-- Texts that begin as no IP literal and no address of a future version does.
use Rattle.std.proofs.Common.{◌≡◌, ◌≢◌, false, [], ◌∷◌, refl, ap, arith, inl, inr, cond, ◌&&◌, Some, None, codes}
use Rattle.std.proofs.lemmas.Bool.Decides.{eqb_tells, nat_tests}
use Rattle.std.specs.Char.{char_set_contains}
use Rattle.iref_grammar.specs.{Rules.{Text}, Grammar.{left_bracket, right_bracket, full_stop}, Texts.{before, after}}
use Rattle.iref_grammar.specs.Tests.{in_brackets, ends_here, is_ipvfuture, is_future_version, is_future_address}

pub in_brackets-unbracketed : (text : Text) → ((rest : Text) → text ≢ left_bracket ∷ rest) → in_brackets text ≡ None
in_brackets-unbracketed [] h = refl
in_brackets-unbracketed (c ∷ cs) h = elim (eqb_tells c left_bracket) [
  | inl e ↦ absurd (h cs (ap (λ b. b ∷ cs) e.1))
  | inr e ↦ λ i. cond (e.0 i && ends_here (after right_bracket cs)) (Some (before (right_bracket ∷ []) cs)) None
]

pub is_ipvfuture-without_v : (text : Text) → ((rest : Text) → text ≢ 118 ∷ rest) → ((rest : Text) → text ≢ 86 ∷ rest) → is_ipvfuture text ≡ false
unfolding is_ipvfuture
is_ipvfuture-without_v [] small large = refl
is_ipvfuture-without_v (c ∷ cs) small large =
    let no_small : c ≢ 118 = λ e. small cs (ap (λ b. b ∷ cs) e) in
    let no_large : c ≢ 86 = λ e. large cs (ap (λ b. b ∷ cs) e) in
    let no_v : char_set_contains (codes "vV") c ≡ false = grind (arith, nat_tests) in
    ap (λ b. b && is_future_version (before (full_stop ∷ []) cs) && is_future_address (after full_stop cs)) no_v
