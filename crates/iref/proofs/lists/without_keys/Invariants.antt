use Rattle.std.proofs.Common.{◌≡◌, map, take}
use Rattle.iref_reference.specs.References.{reference_text}
use Rattle.iref.proofs.lists.without_keys.Given as goal

-- those read are taken over
abbrev pub invariant-loop-it : goal.invariant-loop-it
invariant-loop-it g l = map (λ it. reference_text it) l.references.items ≡ take l.it-index l.keyed
