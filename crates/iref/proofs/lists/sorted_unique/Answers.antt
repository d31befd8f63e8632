use Rattle.std.proofs.{Common.{◌≡◌, ap, map, subst, ◌∙◌}, lemmas.List.Filters.{dedup_is}}
use Rattle.std.specs.{List.Sorted.{IsPermutation, IsStable}, Ordering.{eq_by_cmp, on}}
use Rattle.iref_grammar.specs.Key.{key_cmp}
use Rattle.iref_reference.specs.References.{reference_text}
use Rattle.iref.specs.Lists.{key_of_text}
use Rattle.iref.proofs.SortedLemmas.{begun}
use Rattle.iref.proofs.lists.sorted_unique.Goals as goal

pub returns : goal.returns
returns g c =
    let started : c.in_ok-keyed.keyed.items ≡ map (λ m. reference_text m.reference) c.in_ok-keys.measured.items =
    c.in_ok-keyed.ensures ∙ ap (map (λ m. reference_text m.reference)) c.as_slice-2.ensures.value in
    let texts : c.in_ok-keyed.keyed.items ≡ map (λ r. reference_text r) c.args.references.now =
    begun (λ r. reference_text r) (λ m. m.reference) c.args.references.now c.in_ok-keys.measured.items c.in_ok-keyed.keyed.items
    c.in_ok-keys.ensures.same started in
    record {
      sorted = c.sort.new.self.items;
      same = subst (λ l. IsPermutation l c.sort.new.self.items) texts c.in_ok-sort.ensures.permutation;
      order = c.in_ok-sort.ensures.sorted;
      stable = subst (λ l. IsStable (on key_of_text key_cmp) l c.sort.new.self.items) texts c.in_ok-sort.ensures.stable;
      unique =
          c.in_ok-kept.ensures ∙ c.as_slice-3.ensures.value
          ∙ dedup_is (on key_of_text (eq_by_cmp key_cmp)) c.sort.new.self.items c.dedup.new.self.items c.dedup.ensures.filtered;
    }
