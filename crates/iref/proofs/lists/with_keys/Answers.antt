use Rattle.std.proofs.Common.{◌≡◌, ◌+◌, ◌<◌, ◌++◌, [], ◌∷◌, ap, arith, drop, length, map, rules, sym, subst, take, ◌∙◌}
use Rattle.std.proofs.{lemmas.Grind.{common_steps}, lemmas.List.{map-append}}
use Rattle.iref_reference.specs.References.{key_of_reference, reference_text}
use Rattle.iref_canonical.specs.SortKey.{sort_key}
use Rattle.iref.proofs.SortedLemmas.{rest_is}
use Rattle.iref.proofs.lists.with_keys.Goals as goal

pub loop-it-preserved : goal.loop-it-preserved
loop-it-preserved g c =
    let ms = c.args.measured.now in
    let i = c.loop-it.it-index in
    let x = c.it-item.result in
    let under : i < length ms = search rules in
    let taken : take (i + 1) ms ≡ take i ms ++ x ∷ [] = grind (arith, common_steps) in
    let dropped : drop i ms ≡ x ∷ drop (i + 1) ms = grind (arith, common_steps) in
    let measured : x.length ≡ length (sort_key (key_of_reference x.reference)) =
    subst (λ m. m.length ≡ length (sort_key (key_of_reference m.reference))) (sym c.it-item.is) (c.requires.lengths i x under) in (
      c.in_ok-push.ensures.items ∙ ap (λ l. l ++ reference_text x.reference ∷ []) c.loop-it.invariant.0
          ∙ sym (map-append (λ m. reference_text m.reference) (take i ms) (x ∷ [])) ∙ sym (ap (map (λ m. reference_text m.reference)) taken),
      c.split_at.ensures.back ∙ rest_is _ _ (drop i ms) (drop (i + 1) ms) x c.loop-it.rest.now x.length dropped c.loop-it.invariant.1 measured,
    )
