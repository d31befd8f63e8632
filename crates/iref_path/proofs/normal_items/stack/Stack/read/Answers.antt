use Rattle.std.proofs.Common.{[], refl, arith}
use Rattle.iref_grammar.specs.NormalReading.{staying_before}
use Rattle.iref_path.specs.{Pieces.{pieces_if_some}, Stacks.{path_of}}
use Rattle.iref_path.proofs.{NormalItemsLemmas.{parts-whole}, SpellLemmas.{kept_size}, StackLemmas.{parts_put}}
use Rattle.iref_path.proofs.normal_items.stack.Stack.read.Goals as goal

pub put_parents-requires : goal.put_parents-requires
put_parents-requires c = grind (arith, kept_size (pieces_if_some c.args.segments), c.requires.empty [])

pub returns : goal.returns
returns c =
    let parents = c.leading_parents-parents.result in
    let closes = c.ends_in_dots-closes.result in
    let whole = parts-whole (path_of c.args.absolute c.args.segments) parents (staying_before (pieces_if_some c.args.segments) 0) closes (grind arith) refl c.ends_in_dots-closes.ensures in
    rw whole at (c.drop_lone.ensures _ (parts_put _ _ _ _ parents _ closes c.requires.empty c.put_closing.ensures.items c.put_names-open_parents.ensures.items c.put_parents.ensures.items))
