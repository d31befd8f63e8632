use Rattle.std.proofs.Common.{◌≡◌, map, take, drop}
use Rattle.iref_reference.specs.References.{reference_text, key_of_reference}
use Rattle.iref_canonical.specs.SortKey.{sort_key}
use Rattle.iref.proofs.SortedLemmas.{AreLeft}
use Rattle.iref.proofs.lists.with_keys.Given as goal

-- those read have their keys, and the keys of those that are left are left
abbrev pub invariant-loop-it : goal.invariant-loop-it
invariant-loop-it g l =
    (l.keyed.items ≡ map (λ m. reference_text m.reference) (take l.it-index l.measured))
    × AreLeft (λ r. sort_key (key_of_reference r)) (λ m. m.reference) (drop l.it-index l.measured) l.rest
