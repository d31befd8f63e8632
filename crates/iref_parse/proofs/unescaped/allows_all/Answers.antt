use Rattle.std.proofs.Common.{length, ◌∙◌, arith}
use Rattle.iref_parse.proofs.{UnescapedLemmas.{marks_at, all_allowed}, SeenLemmas.{Seen-none, Seen-more}}
use Rattle.iref_parse.proofs.unescaped.allows_all.Goals as goal

pub loop-at-init : goal.loop-at-init
loop-at-init g c =
    let bytes = c.args.bytes.now in
    (omega arith, Seen-none (marks_at g.R.ByteRule.mark bytes) (length bytes) c.marks-seen.result (omega arith) c.marks-seen.ensures)

pub loop-at-preserved : goal.loop-at-preserved
loop-at-preserved g c =
    let bytes = c.args.bytes.now in
    let old = c.loop-at in
    (omega arith, Seen-more (marks_at g.R.ByteRule.mark bytes) (length bytes) old.at old.seen c.marks.result c.either-seen.result (omega arith) old.invariant.1 c.marks.ensures c.either-seen.ensures)

pub returns : goal.returns
returns g c =
    c.is_clear.ensures
    ∙ all_allowed g.R.ByteRule.mark g.R.ByteRule.allowed g.met.R.ByteRule.tells c.args.bytes.now c.loop-at.seen c.type_inv.bytes c.loop-at.at (omega arith) c.loop-at.invariant.1
