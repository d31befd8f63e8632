use Rattle.std.proofs.Common.{ap, arith, sym, ◌∙◌}
use Rattle.iref_reference.specs.References.{reference_buf_text, reference_buf_value}
use Rattle.iref.specs.EditSteps.{edit_step}
use Rattle.iref.proofs.NormalEditLemmas.{normal_after, not_again}
use Rattle.iref.proofs.edits.lists.apply_next.Goals as goal
use Rattle.iref.proofs.edits.lists.apply_next.Goals.{in-Normalize, in_default}

pub returns-then-matches-clause-edit : goal.returns-then-matches-clause-edit
returns-then-matches-clause-edit g c =
    elim c.match-matches.branch [
      | in-Normalize w ↦ not_again g.R.HeldRule.allows_scheme (edit_step c.args.edit) (reference_buf_value c.args.reference.now) (ap edit_step w.in-Normalize.is) (c.requires c.if-is_normal.true)
      | in_default w ↦ absurd (grind (arith, w.matches-is, c.if-matches.true))
    ]

pub returns-clause-normal : goal.returns-clause-normal
returns-clause-normal g c = λ known.
    normal_after g.R.HeldRule.allows_scheme (edit_step c.args.edit) c.args.is_normal.now (reference_buf_text c.args.reference.now) (reference_buf_value c.apply.new.reference)
    c.requires c.in_ok-apply.ensures (sym c.is_normal_after.ensures ∙ known)
