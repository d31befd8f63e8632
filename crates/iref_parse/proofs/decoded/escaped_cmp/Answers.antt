use Rattle.std.proofs.{Common.{◌≡◌, refl, ◌∙◌, ap, arith}, lemmas.Cmp.{nat_list_cmp_total, tied_itself}}
use Rattle.std.proofs.{lemmas.Iterator.Consumers.{YieldsList-from_first}, lemmas.Iterator.Search.{cmp_from_yields_List}}
use Rattle.std.proofs.lemmas.Slice.Eq.{bytes_eq-Decides}
use Rattle.std.specs.Ordering.{nat_cmp}
use Rattle.percent_encoding.specs.{Percent.{percent_decode}, Iter.{decoded_bytes}}
use Rattle.iref_parse.proofs.decoded.escaped_cmp.Goals as goal

pub returns-then-eq : goal.returns-then-eq
returns-then-eq c = grind (arith, bytes_eq-Decides, tied_itself nat_list_cmp_total)

pub returns-else-eq : goal.returns-else-eq
returns-else-eq c =
    cmp_from_yields_List (λ x y. y ≡ x) _ nat_cmp _ c.cmp.ensures.ran
    (YieldsList-from_first (λ x. x) decoded_bytes (percent_decode c.args.a.now) c.percent_decode.ensures.bytes)
    (λ it e. YieldsList-from_first (λ x. x) decoded_bytes (percent_decode c.args.b.now) (ap decoded_bytes e ∙ c.percent_decode-else-eq.ensures.bytes))
    (λ x y. refl)
