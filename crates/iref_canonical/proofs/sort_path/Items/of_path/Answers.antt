use Rattle.std.proofs.Common.{ap, sym, subst, ◌∙◌}
use Rattle.iref_grammar.specs.PathValue.{PathValue}
use Rattle.iref_parse.specs.Dots.{has_dotted_segment}
use Rattle.iref_canonical.specs.SortItems.{AreKept}
use Rattle.iref_canonical.proofs.SortItemLemmas.{kept_path}
use Rattle.iref_canonical.proofs.sort_path.Items.of_path.Goals as goal

pub returns-then-not-has_dots-clause-sound : goal.returns-then-not-has_dots-clause-sound
returns-then-not-has_dots-clause-sound c =
    subst (λ (p : PathValue). AreKept p.segments) c.split_root-absolute.ensures.path (kept_path c.args.path.now (c.requires c.if-kept.true) (sym (c.has_dots.ensures ∙ ap has_dotted_segment c.as_bytes.ensures.value) ∙ c.if-not-has_dots.true))
