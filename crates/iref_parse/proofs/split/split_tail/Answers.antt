use Rattle.std.proofs.Common.{◌≡◌, ◌<◌, [], ◌∷◌, length, drop, refl, rules, arith, ap, sym, ◌∙◌, ◌≢◌, Some, None}
use Rattle.std.proofs.{lemmas.Grind.{common_steps}, lemmas.Bool.Decides.{nat_tests}, lemmas.List.{nil_from_length}}
use Rattle.std.proofs.lemmas.Str.{IsUtf8-drop, lead_after_ascii}
use Rattle.iref_grammar.specs.{Rules.{Text}, Grammar.{hash_sign, question_mark}}
use Rattle.iref_grammar.specs.Texts.{before, from_first, after, after_first_char}
use Rattle.iref_grammar.proofs.CutLemmas.{before-no, before-yes, from_first-no}
use Rattle.iref_grammar.proofs.SplitLemmas.{ends_path, hash, begins_with_mark, hierarchy-cut, query-cut, fragment-cut}
use Rattle.iref_parse.proofs.{PositionLemmas.{boundary_at_position}, split.split_tail.Goals.{In-None}}
use Rattle.iref_parse.proofs.split.split_tail.Goals as goal

-- a tail that does not begin with `#` begins with `?`
question_first : (text tail : Text) → tail ≡ from_first ends_path text → 0 < length tail → ((rest : Text) → tail ≢ hash_sign ∷ rest) → tail ≡ question_mark ∷ drop 1 tail
question_first text [] e some other = absurd (omega arith)
question_first text (c ∷ cs) e some other =
    let marked = begins_with_mark ends_path text c cs (sym e) in
    let no_hash : c ≢ hash_sign = λ h. other cs (ap (λ d. d ∷ cs) h) in
    let mark : c ≡ question_mark = grind (arith, nat_tests) in
    ap (λ d. d ∷ cs) mark

tail_is : (c : In-None) → c.split_before_either.result.1.now ≡ question_mark ∷ drop 1 c.split_before_either.result.1.now
tail_is c =
    question_first c.args.text.now c.split_before_either.result.1.now c.split_before_either.ensures.back (grind (arith, nat_tests, c.if-is_empty.false, c.is_empty.ensures)) c.in-None.ensures

pub range_from-requires : goal.range_from-requires
range_from-requires c h = grind (arith, common_steps, IsUtf8-drop, lead_after_ascii, boundary_at_position, tail_is)

pub returns-then-is_empty-clause-front : goal.returns-then-is_empty-clause-front
returns-then-is_empty-clause-front c = c.split_before_either.ensures.front ∙ hierarchy-cut c.args.text.now

pub returns-then-is_empty-clause-query : goal.returns-then-is_empty-clause-query
returns-then-is_empty-clause-query c =
    let nothing = nil_from_length c.split_before_either.result.1.now (search rules) in
    query-cut c.args.text.now [] None (sym (ap (before hash) (sym c.split_before_either.ensures.back ∙ nothing))) (λ rest e. cc)

pub returns-then-is_empty-clause-fragment : goal.returns-then-is_empty-clause-fragment
returns-then-is_empty-clause-fragment c =
    let nothing = nil_from_length c.split_before_either.result.1.now (search rules) in
    sym (ap (after hash_sign) (sym c.split_before_either.ensures.back ∙ nothing)) ∙ fragment-cut c.args.text.now

pub returns-in-Some-clause-front : goal.returns-in-Some-clause-front
returns-in-Some-clause-front c = c.split_before_either.ensures.front ∙ hierarchy-cut c.args.text.now

pub returns-in-Some-clause-query : goal.returns-in-Some-clause-query
returns-in-Some-clause-query c =
    let tail = c.split_before_either.result.1.now in
    let nothing = ap (before hash) c.in-Some.ensures ∙ before-yes hash hash_sign c.in-Some.fragment.now refl in
    query-cut c.args.text.now [] None (sym nothing ∙ ap (before hash) c.split_before_either.ensures.back) (λ rest e. cc)

pub returns-in-Some-clause-fragment : goal.returns-in-Some-clause-fragment
returns-in-Some-clause-fragment c =
    sym (ap (after hash_sign) c.in-Some.ensures) ∙ ap (after hash_sign) c.split_before_either.ensures.back ∙ fragment-cut c.args.text.now

pub returns-in-None-clause-front : goal.returns-in-None-clause-front
returns-in-None-clause-front c = c.split_before_either.ensures.front ∙ hierarchy-cut c.args.text.now

pub returns-in-None-clause-query : goal.returns-in-None-clause-query
returns-in-None-clause-query c =
    let tail = c.split_before_either.result.1.now in
    query-cut c.args.text.now (before hash tail) (Some c.cut.result.0) (ap (before hash) c.split_before_either.ensures.back)
    (ap (before hash) (tail_is (goal.at.returns-in-None-clause-query c).In-None) ∙ before-no hash question_mark (drop 1 tail) refl ∙ ap (λ t. question_mark ∷ before hash t) (sym c.range_from.ensures.value) ∙ ap (λ t. question_mark ∷ t) (sym c.cut.ensures.before))

pub returns-in-None-clause-fragment : goal.returns-in-None-clause-fragment
returns-in-None-clause-fragment c =
    let tail = c.split_before_either.result.1.now in
    c.cut.ensures.after ∙ ap (after hash_sign) c.range_from.ensures.value ∙ sym (ap after_first_char (from_first-no hash question_mark (drop 1 tail) refl))
    ∙ ap (after hash_sign) (sym (tail_is (goal.at.returns-in-None-clause-fragment c).In-None) ∙ c.split_before_either.ensures.back) ∙ fragment-cut c.args.text.now
