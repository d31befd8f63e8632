use Rattle.std.proofs.Common.{ap, sym, ◌∙◌}
use Rattle.iref_canonical.specs.SortBytes.{is_kept}
use Rattle.iref_canonical.proofs.SortShortLemmas.{slices_kept}
use Rattle.iref_canonical.proofs.sort_key.SortedReference.new.Goals as goal

pub of_path-absolute-requires : goal.of_path-absolute-requires
of_path-absolute-requires c = λ h.
    (slices_kept c.args.text.now c.args.slices c.requires.value c.requires.texts (sym (c.is_kept-kept.ensures ∙ ap is_kept c.as_bytes.ensures.value) ∙ h)).path

pub returns-clause-sorted : goal.returns-clause-sorted
returns-clause-sorted c = record {
  items = c.of_path-absolute.ensures.sound;
  kept = λ h. slices_kept c.args.text.now c.args.slices c.requires.value c.requires.texts (sym (c.is_kept-kept.ensures ∙ ap is_kept c.as_bytes.ensures.value) ∙ h);
}
