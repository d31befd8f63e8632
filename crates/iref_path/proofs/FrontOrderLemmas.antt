-- Lists of segments that are compared from the front.
use Rattle.std.proofs.{Common.{◌≡◌, List, [], ◌∷◌, ◌++◌, refl, sym, ap, ◌∙◌, arith, Equal}, lemmas.List.{map-append}}
use Rattle.std.proofs.{lemmas.Map.Text.{is_eq-slice_cmp}, lemmas.Slice.Eq.{bytes_eq-Decides}}
use Rattle.std.specs.{Ordering.{ordering_then}, Cmp.Lexicographic.{slice_cmp}}
use Rattle.percent_encoding.specs.Percent.{percent_decode}
use Rattle.iref_grammar.specs.{Keys.{text_order}, Rules.{Text}}
use Rattle.iref_path.specs.Pieces.{ShareFront}
use Rattle.iref_path.proofs.OrderLemmas.{decoded}

-- ---- what both begin with does not count

own_order : (text : Text) → text_order text text ≡ Equal
own_order text = grind (arith, bytes_eq-Decides, is_eq-slice_cmp text text)

pub same_order : (front xs ys : List Text) → slice_cmp text_order (front ++ xs) (front ++ ys) ≡ slice_cmp text_order xs ys
same_order [] xs ys = refl
same_order (s ∷ front) xs ys = grind (arith, own_order, same_order front)

-- nor does a first segment that decodes to the same bytes
pub order_behind_first : (s t : Text) (names others below rest : List Text) → text_order (percent_decode s) (percent_decode t) ≡ Equal → ShareFront names others below rest
    → slice_cmp text_order (decoded below) (decoded rest) ≡ slice_cmp text_order (decoded (s ∷ names)) (decoded (t ∷ others))
order_behind_first s t names others below rest same shared =
    let front = decoded shared.front in
    sym (same_order front (decoded below) (decoded rest))
    ∙ sym (λ i. slice_cmp text_order ((ap decoded shared.first ∙ map-append percent_decode shared.front below) i) ((ap decoded shared.second ∙ map-append percent_decode shared.front rest) i))
    ∙ sym (ap (λ o. ordering_then o (slice_cmp text_order (decoded names) (decoded others))) same)
