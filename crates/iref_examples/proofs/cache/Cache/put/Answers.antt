use Rattle.std.proofs.Common.{subst}
use Rattle.iref.specs.{Key.{key}, References.{reference_value}}
use Rattle.iref_examples.specs.Caches.{HasPut, entries_of}
use Rattle.iref_examples.proofs.CacheLemmas.{copy_canonical, keys_canonical, put_by_text}
use Rattle.iref_examples.proofs.cache.Cache.put.Goals as goal

pub invariant_of-self-2 : goal.invariant_of-self-2
invariant_of-self-2 g c =
    let is = copy_canonical _ _ (key (reference_value c.args.uri)) c.into_string.ensures.text c.in_ok-canonical.ensures.text c.in_ok-canonical.ensures.key in
    keys_canonical c.self.inside.values c.insert.new.self c.into_string.result (reference_value c.args.uri) c.args.value is c.in_ok-insert.ensures.updates c.self.invariant

pub returns-clause-ok : goal.returns-clause-ok
returns-clause-ok g c =
    let is = copy_canonical _ _ (key (reference_value c.args.uri)) c.into_string.ensures.text c.in_ok-canonical.ensures.text c.in_ok-canonical.ensures.key in
    subst (λ cache. HasPut cache (entries_of c.insert.new.self) (reference_value c.args.uri) c.args.value) c.self.view_is
    (put_by_text c.self.inside.values c.insert.new.self c.into_string.result (reference_value c.args.uri) c.args.value is c.in_ok-insert.ensures.updates)
