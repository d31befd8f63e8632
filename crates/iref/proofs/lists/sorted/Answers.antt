use Rattle.std.proofs.Common.{◌≡◌, ap, map, ◌∙◌}
use Rattle.std.specs.{List.Sorted.{IsPermutation, IsStable}, Ordering.{on}}
use Rattle.iref_grammar.specs.Key.{key_cmp}
use Rattle.iref_reference.specs.References.{reference_text}
use Rattle.iref.specs.Lists.{key_of_text}
use Rattle.iref.proofs.SortedLemmas.{of_references}
use Rattle.iref.proofs.lists.sorted.Goals as goal

pub returns-clause-same : goal.returns-clause-same
returns-clause-same g c =
    let started : c.in_ok-keyed.keyed.items ≡ map (λ m. reference_text m.reference) c.in_ok-keys.measured.items =
    c.in_ok-keyed.ensures ∙ ap (map (λ m. reference_text m.reference)) c.as_slice-2.ensures.value in
    let ended : map (λ r. reference_text r) c.in_ok-sorted.sorted.items ≡ c.sort.new.self.items =
    c.in_ok-sorted.ensures ∙ c.as_slice-3.ensures.value in
    of_references (λ r. reference_text r) (λ m. m.reference) c.args.references.now c.in_ok-keys.measured.items c.in_ok-keyed.keyed.items
    c.in_ok-keys.ensures.same started c.in_ok-sorted.sorted.items c.sort.new.self.items ended IsPermutation c.in_ok-sort.ensures.permutation

pub returns-clause-stable : goal.returns-clause-stable
returns-clause-stable g c =
    let started : c.in_ok-keyed.keyed.items ≡ map (λ m. reference_text m.reference) c.in_ok-keys.measured.items =
    c.in_ok-keyed.ensures ∙ ap (map (λ m. reference_text m.reference)) c.as_slice-2.ensures.value in
    let ended : map (λ r. reference_text r) c.in_ok-sorted.sorted.items ≡ c.sort.new.self.items =
    c.in_ok-sorted.ensures ∙ c.as_slice-3.ensures.value in
    of_references (λ r. reference_text r) (λ m. m.reference) c.args.references.now c.in_ok-keys.measured.items c.in_ok-keyed.keyed.items
    c.in_ok-keys.ensures.same started c.in_ok-sorted.sorted.items c.sort.new.self.items ended (IsStable (on key_of_text key_cmp)) c.in_ok-sort.ensures.stable
