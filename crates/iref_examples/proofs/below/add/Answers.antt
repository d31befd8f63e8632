use Rattle.std.proofs.Common.{◌≡◌, subst, sym}
use Rattle.std.specs.List.{AllByRecursion}
use Rattle.iref.specs.{Key.{key}, References.{reference_buf_value}}
use Rattle.iref_canonical.specs.SortKey.{sort_key}
use Rattle.iref_examples.proofs.BelowLemmas.{added, inserted}
use Rattle.iref_examples.proofs.below.add.Goals as goal

pub returns-clause-ok : goal.returns-clause-ok
returns-clause-ok c = λ all.
    subst (AllByRecursion (λ e. e.0 ≡ sort_key (key (reference_buf_value e.1)))) (sym c.in_ok-insert.ensures.entries)
    (inserted (λ it. reference_buf_value it) c.in_ok-key.key c.args.uri c.in_ok-key.ensures c.args.index.now.entries all)

pub returns-clause-added : goal.returns-clause-added
returns-clause-added c =
    added (λ it. reference_buf_value it) c.args.index.now c.insert.new.self c.in_ok-key.key c.args.uri c.in_ok-key.ensures c.in_ok-insert.ensures.updates
