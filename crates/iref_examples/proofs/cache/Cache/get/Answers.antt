use Rattle.std.proofs.{Common.{sym, ◌∙◌, ap}, lemmas.Slice.Eq.{bytes_eq-Decides}}
use Rattle.iref.specs.{Reference.{read_reference}, References.{reference_value}}
use Rattle.iref_examples.specs.Caches.{found}
use Rattle.iref_examples.proofs.CacheLemmas.{found-canonical, found-key}
use Rattle.iref_examples.proofs.cache.Cache.get.Goals as goal

pub returns-in-Some-clause-found : goal.returns-in-Some-clause-found
returns-in-Some-clause-found g c =
    found-key c.self.inside.values c.args.self.now c.self.view_is c.as_str.result.now c.in-Some.value.now c.self.invariant c.in-Some.ensures.value
    ∙ ap (λ t. found c.args.self.now (read_reference t)) c.as_str.ensures.text

pub returns-then-eq-clause-found : goal.returns-then-eq-clause-found
returns-then-eq-clause-found g c =
    let same = (bytes_eq-Decides c.in_ok-text.text.now c.as_str-2.result.now).0 (sym c.if-eq.ensures) in
    let canonical = c.as_str.ensures.text ∙ sym c.as_str-2.ensures.text ∙ sym same ∙ c.in_ok-text.ensures.text in
    c.in_default.ensures.value ∙ found-canonical c.self.inside.values c.args.self.now c.self.view_is c.as_str.result.now (reference_value c.args.uri) canonical

pub returns-clause-found : goal.returns-clause-found
returns-clause-found g c =
    c.get-2.ensures.value
    ∙ found-canonical c.self.inside.values c.args.self.now c.self.view_is c.in_ok-text.text.now (reference_value c.args.uri) c.in_ok-text.ensures.text
