use Rattle.std.proofs.Common.{rules, ◌≡◌, ◌++◌, ap, map, ◌∙◌}
use Rattle.std.specs.{declared.ops.Bound.TheVariants.{Excluded, Included}, BTreeMap.Range.{entries_between}}
use Rattle.iref.specs.{Keys.{text_order}, References.{key_of_reference, reference_buf_value, reference_value}}
use Rattle.iref_canonical.specs.SortPrefix.{sort_prefix, sort_prefix_end}
use Rattle.iref_examples.proofs.BelowLemmas.{in_range}
use Rattle.iref_examples.proofs.below.below.Goals as goal

pub loop-below-init : goal.loop-below-init
loop-below-init c =
    let q = key_of_reference c.args.uri in
    let entries = c.args.index.now.entries in
    let same : c.into_iter-below-iterator.result ≡ c.range-below-items.result = search rules in
    let between : c.range-below-items.result ≡ entries_between text_order (Included (sort_prefix q)) (Excluded (sort_prefix_end q)) entries =
    c.range-below-items.ensures.between tt
    ∙ ap (λ t. entries_between text_order (Included t) (Excluded c.in_ok-range.range.end) entries) c.in_ok-range.ensures.start
    ∙ ap (λ t. entries_between text_order (Included (sort_prefix q)) (Excluded t) entries) c.in_ok-range.ensures.end in
    ap (λ l. map (λ it. reference_value it) l ++ map (λ e. reference_buf_value e.1) c.into_iter-below-iterator.result) c.new-found.ensures.items
    ∙ ap (map (λ e. reference_buf_value e.1)) (same ∙ between)
    ∙ in_range (λ it. reference_buf_value it) (reference_value c.args.uri) entries c.requires
