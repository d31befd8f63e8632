use Rattle.std.proofs.{Common.{◌≡◌, ◌∙◌, refl, sym, rules, tests}, lemmas.Iterator.{YieldsList-from_map}}
use Rattle.std.proofs.{lemmas.Iterator.Adapters.{YieldsList-from_bytes}, lemmas.Iterator.Consumers.{YieldsList-at}}
use Rattle.std.proofs.lemmas.Iterator.Search.{cmp_from_yields_List}
use Rattle.std.specs.{Char.{to_ascii_lowercase}, Ordering.{nat_cmp}, Str.{str_to_ascii_lowercase}}
use Rattle.iref_component.specs.Comparisons.{by_text}
use Rattle.iref_component.proofs.KeyLemmas.{same_keys}
use Rattle.iref_component.proofs.key.LowerCaseKey.compare.Goals as goal

pub returns-then-eq : goal.returns-then-eq
returns-then-eq g c = same_keys (by_text str_to_ascii_lowercase) c.args.a.now c.args.b.now (sym c.eq.ensures ∙ c.if-eq.true)

pub returns : goal.returns
returns g c =
    cmp_from_yields_List (λ x y. y ≡ x) _ nat_cmp _ c.cmp.ensures.ran
    (YieldsList-from_map _ to_ascii_lowercase (YieldsList-at c.map.ensures.source (YieldsList-from_bytes c.args.a.now c.bytes.ensures.rest)) c.map.ensures.closure (λ x r q k. search (rules, tests)))
    (λ it e. YieldsList-at e (YieldsList-from_map _ to_ascii_lowercase (YieldsList-at c.map-2.ensures.source (YieldsList-from_bytes c.args.b.now c.bytes-2.ensures.rest)) c.map-2.ensures.closure (λ x r q k. search (rules, tests))))
    (λ x y. refl)
