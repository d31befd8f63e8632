use Rattle.std.proofs.Common.{◌∙◌, arith}
use Rattle.iref_parse.proofs.OrderLemmas.{order_at_end}
use Rattle.iref_parse.proofs.decoded.far_cmp.Goals as goal

pub returns-then-front-b : goal.returns-then-front-b
returns-then-front-b c = c.cmp.ensures ∙ order_at_end c.args.a.now c.args.b.now c.kept_front-front.result c.kept_front-front.ensures (λ l m. omega (arith, c.if-front-b.either))
