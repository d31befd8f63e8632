use Rattle.std.proofs.Common.{◌≡◌, ℕ, ◌+◌, ◌-◌, ◌<◌, ◌∙◌, get_or, length, ap, sym, arith}
use Rattle.iref_parse.proofs.{PositionLemmas.{ends, low_end, high_end}, SeenLemmas.{Seen-ends}}
use Rattle.iref_parse.proofs.UnescapedLemmas.{marks_at, all_allowed}
use Rattle.iref_parse.proofs.unescaped.allows_ends.Goals as goal

pub returns : goal.returns
returns g c =
    let mark = g.R.ByteRule.mark in
    let bytes = c.args.bytes.now in
    let v = c.marks.result in
    let lane : (k : ℕ) → k < 16 → get_or v k 0 ≡ mark (get_or (ends bytes) k 0) = λ k l.
    let here : 0 + k ≡ k = omega arith in
    c.marks.ensures.each k l ∙ (λ i. mark (get_or (c.ends_of.ensures i) (here i) 0)) in
    let seen = Seen-ends (marks_at mark bytes) (length bytes) v c.requires.least c.requires.most c.marks.ensures.long
    (λ k l. lane k (omega arith) ∙ ap mark (sym (low_end bytes c.requires.least k l)))
    (λ k l late. lane (k + 16 - length bytes) (omega arith) ∙ ap mark (sym (high_end bytes c.requires.least k late))) in
    c.is_clear.ensures ∙ all_allowed mark g.R.ByteRule.allowed g.met.R.ByteRule.tells bytes v c.type_inv.bytes 0 c.requires.most seen
