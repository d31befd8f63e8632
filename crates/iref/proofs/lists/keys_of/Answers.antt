use Rattle.std.proofs.{Common.{◌≡◌, ◌+◌, ◌-◌, ◌++◌, [], ◌∷◌, arith, length, refl, take}, lemmas.Grind.{common_steps}}
use Rattle.iref_reference.specs.References.{key_of_reference}
use Rattle.iref_canonical.specs.SortKey.{sort_key}
use Rattle.iref.proofs.SortedLemmas.{one_made}
use Rattle.iref.proofs.lists.keys_of.Goals as goal

pub loop-reference-preserved : goal.loop-reference-preserved
loop-reference-preserved g c =
    let i = c.loop-reference.reference-index in
    let references = c.args.references.now in
    let x = c.reference-item.result in
    let keys = c.loop-reference.keys.items in
    let more = c.append_sort_key_to.new.bytes.items in
    let len = c.len.result - c.len-start.result in
    let read : take (i + 1) references ≡ take i references ++ x ∷ [] = grind (arith, common_steps) in
    let measured : len ≡ length more - length keys = grind (arith, c.len.ensures, c.len-start.ensures) in
    one_made (λ r. sort_key (key_of_reference r)) (λ m. m.reference) (λ m. m.length) references i x keys more
    c.loop-reference.measured.items c.push.new.self.items (record { reference = x; length = len }) read
    c.loop-reference.invariant c.in_ok-append_sort_key_to.ensures.ok refl measured c.in_ok-push.ensures.items
