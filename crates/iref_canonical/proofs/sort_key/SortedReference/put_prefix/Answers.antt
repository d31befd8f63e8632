use Rattle.std.proofs.Common.{[], ◌∷◌, ◌++◌, if◌then◌else◌}
use Rattle.std.specs.List.{flat_map}
use Rattle.iref_canonical.specs.{SortItems.{items_of}, SortKey.{sort_authority, sort_item, sort_option, sort_text}}
use Rattle.iref_canonical.specs.{SortPrefix.{sort_path_prefix, sort_prefix}, SortedReferences.{sorted_key}}
use Rattle.iref_canonical.proofs.sort_key.SortedReference.put_prefix.Goals as goal

pub put-requires-clause-fits : goal.put-requires-clause-fits
unfolding sort_path_prefix sort_prefix
put-requires-clause-fits g c =
    let s = c.args.self.now in
    let k = sorted_key s in
    let path = g.met.O.Backward.fits_both c.args.out.now (sort_option sort_text k.scheme ++ sort_option sort_authority k.authority) (sort_path_prefix k.path) c.requires.fits in
    (g.met.O.Backward.fits_both c.args.out.now ((if s.absolute then 1 else 0) ∷ []) (flat_map sort_item (items_of s.items)) path.0).0
