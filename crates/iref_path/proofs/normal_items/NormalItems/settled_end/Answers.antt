use Rattle.std.proofs.Common.{sym, subst}
use Rattle.iref_path.specs.NormalItems.{IsPlain}
use Rattle.iref_path.proofs.NormalItemsLemmas.{end_last, end_plain, end_within}
use Rattle.iref_path.proofs.normal_items.NormalItems.settled_end.Goals as goal

pub returns-clause-items : goal.returns-clause-items
returns-clause-items c =
    let found = c.behind_parents-names.ensures in
    rw c.unread.ensures (end_last c.args.self.now c.requires _ _ found.end found.settled found.names)

pub returns-clause-within : goal.returns-clause-within
returns-clause-within c =
    let found = c.behind_parents-names.ensures in
    rw c.unread.ensures (end_within c.args.self.now c.requires _ _ found.end found.settled found.names)

pub returns-clause-plain : goal.returns-clause-plain
returns-clause-plain c =
    let found = c.behind_parents-names.ensures in
    subst IsPlain (sym c.unread.ensures) (end_plain c.args.self.now c.requires _ _ found.end found.settled found.names)
