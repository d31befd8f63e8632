use Rattle.std.proofs.Common.{arith, ◌++◌, ◌+◌, ◌-◌, ap, drop, length, take}
use Rattle.iref_canonical.proofs.SortBlockLemmas.{stored}
use Rattle.iref_canonical.proofs.sort_short.store.Goals as goal

pub returns : goal.returns
returns c =
    let at = c.args.at in
    let bytes = c.args.bytes.now in
    let old = c.args.buffer.now in
    let size = at + length bytes - at in
    λ count most. stored at size count bytes old _ (omega arith) c.requires most (ap (λ t. take at old ++ (t ++ drop size (drop at old))) c.copy_from_slice.ensures.after)
