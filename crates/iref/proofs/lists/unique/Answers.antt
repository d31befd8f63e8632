use Rattle.std.proofs.{Common.{◌≡◌, ◌+◌, [], ◌∷◌, ◌++◌, arith, take, ◌∙◌}, lemmas.Grind.{common_steps}}
use Rattle.iref_reference.specs.References.{reference_value}
use Rattle.iref.proofs.{FirstLemmas.{none_kept, one_kept}, lists.unique.Goals.{then-branch+in_ok-push, else-branch}}
use Rattle.iref.proofs.lists.unique.Goals as goal

pub loop-reference-preserved : goal.loop-reference-preserved
loop-reference-preserved g c =
    let i = c.loop-reference.reference-index in
    let references = c.args.references.now in
    let read : take (i + 1) references ≡ take i references ++ c.reference-item.result ∷ [] = grind (arith, common_steps) in
    let tested = c.in_ok-insert.ensures.added in
    elim c.if-branch.branch [
      | then-branch+in_ok-push w ↦
          one_kept (λ r. reference_value r) c.loop-reference.kept.items references c.if-branch.kept.items i c.reference-item.result c.in_ok-sort_key.field-0
          c.loop-reference.seen c.insert.new.self c.in_ok-insert.field-0
          read c.loop-reference.invariant c.in_ok-sort_key.ensures tested w.if-branch.true c.in_ok-insert.ensures.updates
          ((λ t. (w.kept-is t).items) ∙ w.in_ok-push.ensures.items)
      | else-branch w ↦
          none_kept (λ r. reference_value r) c.loop-reference.kept.items references c.if-branch.kept.items i c.reference-item.result c.in_ok-sort_key.field-0
          c.loop-reference.seen c.insert.new.self c.in_ok-insert.field-0
          read c.loop-reference.invariant c.in_ok-sort_key.ensures tested w.if-branch.false c.in_ok-insert.ensures.unchanged
          (λ t. (w.kept-is t).items)
    ]
