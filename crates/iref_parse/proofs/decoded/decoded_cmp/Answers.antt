use Rattle.std.proofs.Common.{◌≡◌, ◌∙◌, arith}
use Rattle.percent_encoding.specs.Percent.{percent_decode}
use Rattle.iref_grammar.specs.Keys.{text_order}
use Rattle.iref_parse.proofs.{KeptLemmas.{IsKeptFront-near}, OrderLemmas.{order_at_end}}
use Rattle.iref_parse.proofs.decoded.decoded_cmp.Goals.{then-len-lt16, else-len-lt16}
use Rattle.iref_parse.proofs.decoded.decoded_cmp.Goals as goal

pub cmp_behind-requires-clause-kept : goal.cmp_behind-requires-clause-kept
cmp_behind-requires-clause-kept c =
    IsKeptFront-near c.as_bytes-a.result.now c.as_bytes-b.result.now c.if-len-lt16.near c.kept_in_few-front.result
    (elim c.if-len-lt16.branch [ then-len-lt16 w ↦ omega arith | else-len-lt16 w ↦ omega arith ])
    (elim c.if-len-lt16.branch [ then-len-lt16 w ↦ omega arith | else-len-lt16 w ↦ omega arith ])
    c.kept_in_few-front.ensures (λ all _ _. omega arith)

pub returns-then-len-lt16-2 : goal.returns-then-len-lt16-2
returns-then-len-lt16-2 c =
    let a = c.as_bytes-a.result.now in
    let b = c.as_bytes-b.result.now in
    let near : c.if-len-lt16.near ≡ c.min-len.result = elim c.if-len-lt16.branch [ then-len-lt16 w ↦ w.near-is | else-len-lt16 w ↦ omega arith ] in
    let kept = IsKeptFront-near a b c.if-len-lt16.near c.kept_in_few-front.result (omega arith) (omega arith) c.kept_in_few-front.ensures (λ all left right. omega arith) in
    c.cmp.ensures
    ∙ order_at_end a b c.kept_in_few-front.result kept (λ l m. omega arith)
    ∙ (λ i. text_order (percent_decode (c.as_bytes-a.ensures.value i)) (percent_decode (c.as_bytes-b.ensures.value i)))
