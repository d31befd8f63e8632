use Rattle.std.proofs.Common.{rules, ◌-◌, length, drop, codes, ap, ◌∙◌, unwrap_or, length-drop, arith, tests}
use Rattle.std.proofs.{lemmas.List.{take_all}, lemmas.Iterator.Search.{position_from_yields_List}}
use Rattle.std.proofs.lemmas.Iterator.{YieldsList-from_slice}
use Rattle.std.specs.Char.{char_set_contains}
use Rattle.iref_grammar.proofs.SplitLemmas.{range_or_len}
use Rattle.iref_grammar.proofs.context.from_mark.Goals as goal

pub returns : goal.returns
returns c =
    let text = c.args.bytes.now in
    let is_mark = char_set_contains (codes ":/?#") in
    let n = c.unwrap_or.result in
    let range = position_from_yields_List is_mark _ _ c.position-end.result c.position-end.ensures.ran (YieldsList-from_slice text cc) (λ x b q k. search (rules, tests)) in
    take_all (length text - n) (drop n text) (omega (arith, length-drop n text)) ∙ ap (λ m. drop m text) (c.unwrap_or.ensures ∙ ap (λ o. unwrap_or o (length text)) range ∙ range_or_len is_mark text)
