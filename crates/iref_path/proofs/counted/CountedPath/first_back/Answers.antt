use Rattle.std.proofs.{Common.{arith}, Math.Bool.{and-true}}
use Rattle.iref_path.specs.CountedPath.{all_items_unread, items_unread}
use Rattle.iref_path.proofs.counted.CountedPath.first_back.Goals as goal

pub returns-in_default-clause-item : goal.returns-in_default-clause-item
unfolding items_unread all_items_unread
returns-in_default-clause-item c = grind arith

pub returns-then-name_stays-clause-item : goal.returns-then-name_stays-clause-item
unfolding items_unread all_items_unread
returns-then-name_stays-clause-item c = grind (arith, and-true)

pub returns-else-name_stays-clause-item : goal.returns-else-name_stays-clause-item
unfolding items_unread all_items_unread
returns-else-name_stays-clause-item c = grind (arith, and-true)
