use Rattle.std.proofs.Common.{arith, ap, codes, length, replicate, ◌-◌}
use Rattle.iref_path.specs.{NormalItems.{normal_left}, Spelling.{each_closed}, StepsBetween.{last_ones}}
use Rattle.iref_path.proofs.{SpellLemmas.{size-append, size-parents}, SuffixLemmas.{size-drop}}
use Rattle.iref_path.proofs.relative_steps.items_between.Goals as goal

pub returns-clause-room : goal.returns-clause-room
returns-clause-room g c =
    let list = normal_left c.args.items in
    let up = c.len.result - c.compare_lists-common.result.0 in
    let count = c.len-2.result - c.compare_lists-common.result.0 in
    omega (
      arith,
      c.requires.room,
      ap (λ l. length (each_closed l)) c.last_after.ensures.items,
      size-append (replicate up (codes "..")) (last_ones count list),
      size-parents up,
      size-drop (length list - count) list,
      c.len.ensures,
    )
