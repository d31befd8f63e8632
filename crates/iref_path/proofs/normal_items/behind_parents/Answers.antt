use Rattle.std.proofs.Common.{◌≡◌, ◌∷◌, ap, arith, length, ◌∙◌}
use Rattle.iref_path.specs.Pieces.{pieces_if_some}
use Rattle.iref_path.proofs.NormalItemsLemmas.{dot_scanned, name_scanned, parent_scanned}
use Rattle.iref_path.proofs.normal_items.behind_parents.Goals as goal

pub loop-left-preserved-then-is_name : goal.loop-left-preserved-then-is_name
loop-left-preserved-then-is_name c =
    let left : pieces_if_some c.loop-left.left ≡ c.first_segment.result.0.now ∷ pieces_if_some c.first_segment.result.1 = ap pieces_if_some c.in-Some.is ∙ c.first_segment.ensures in
    record { scanned = name_scanned _ _ _ _ _ _ left c.loop-left.invariant.scanned (grind arith); count = omega (arith, ap length left) }

pub loop-left-preserved-then-eq : goal.loop-left-preserved-then-eq
loop-left-preserved-then-eq c =
    let left : pieces_if_some c.loop-left.left ≡ c.first_segment.result.0.now ∷ pieces_if_some c.first_segment.result.1 = ap pieces_if_some c.in-Some.is ∙ c.first_segment.ensures in
    record { scanned = parent_scanned _ _ _ _ _ _ left c.loop-left.invariant.scanned; count = omega (arith, ap length left) }

pub loop-left-preserved : goal.loop-left-preserved
loop-left-preserved c =
    let left : pieces_if_some c.loop-left.left ≡ c.first_segment.result.0.now ∷ pieces_if_some c.first_segment.result.1 = ap pieces_if_some c.in-Some.is ∙ c.first_segment.ensures in
    record { scanned = dot_scanned _ _ _ _ _ _ left c.loop-left.invariant.scanned (grind arith) (grind arith); count = omega (arith, ap length left) }
