use Rattle.std.proofs.Common.{length-append, length-drop, ◌∙◌, arith}
use Rattle.iref_path.proofs.{RewritingLemmas.{listed}, WrittenLemmas.{nothing_behind}}
use Rattle.iref_path.proofs.rewriting.write_list.Goals.{then-stays, else-stays}
use Rattle.iref_path.proofs.rewriting.write_list.Goals as goal

pub write_parents-requires-clause-room : goal.write_parents-requires-clause-room
write_parents-requires-clause-room c =
    let text = listed c.args.absolute c.args.bytes.now _ c.if-stays.end c.name_stays-stays.new.open_parents c.name_stays-stays.result
    c.segment_before-last.ensures.pieces c.name_stays-stays.ensures.stays c.name_stays-stays.ensures.counted (elim c.if-stays.branch [ then-stays w ↦ grind arith | else-stays w ↦ grind arith ]) in
    grind (arith, length-append, length-drop)

pub returns : goal.returns
returns c =
    let text = listed c.args.absolute c.args.bytes.now _ c.if-stays.end c.name_stays-stays.new.open_parents c.name_stays-stays.result
    c.segment_before-last.ensures.pieces c.name_stays-stays.ensures.stays c.name_stays-stays.ensures.counted (elim c.if-stays.branch [ then-stays w ↦ grind arith | else-stays w ↦ grind arith ]) in
    record {
      range = grind (arith, length-append, length-drop);
      written = grind (arith, nothing_behind);
      len = c.write_parents.ensures.len ∙ c.move_names-start.ensures.text.len;
    }
