use Rattle.std.proofs.Common.{◌++◌, ◌∙◌, ap, sym, true}
use Rattle.iref_grammar.specs.{NormalList.{without_lone_empty}, NormalReading.{closing, staying_before}}
use Rattle.iref_grammar.proofs.ItemLemmas.{normal_segments-is}
use Rattle.iref_path.specs.{NormalItems.{names_and_closing}, Pieces.{pieces_if_some}, Stacks.{path_of}}
use Rattle.iref_path.proofs.normal_items.rooted.RootedItems.new.Goals as goal

pub returns : goal.returns
returns c =
    ap (λ left. without_lone_empty (names_and_closing left)) c.unread-left.ensures
    ∙ ap (λ closes. without_lone_empty (staying_before (pieces_if_some c.args.segments) 0 ++ closing closes)) c.ends_in_dots-closes.ensures
    ∙ sym (normal_segments-is (path_of true c.args.segments))
