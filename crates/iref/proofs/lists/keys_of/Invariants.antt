use Rattle.std.proofs.Common.{take}
use Rattle.iref_reference.specs.References.{key_of_reference}
use Rattle.iref_canonical.specs.SortKey.{sort_key}
use Rattle.iref.specs.Lists.{AreKeysOf}
use Rattle.iref.proofs.lists.keys_of.Given as goal

-- the keys of those read are made
abbrev pub invariant-loop-reference : goal.invariant-loop-reference
invariant-loop-reference g l =
    AreKeysOf (λ r. sort_key (key_of_reference r)) (λ m. m.reference) (λ m. m.length) (take l.reference-index l.references) l.keys.items l.measured.items
