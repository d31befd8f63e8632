use Rattle.std.proofs.{Common.{sym, subst, ◌∙◌, ap, chars, arith, Some, None, if◌then◌else◌}, lemmas.Bool.Decides.{nat_tests}}
use Rattle.iref_grammar.specs.Tests.{is_encoded_after, ScansTo}
use Rattle.iref_parse.proofs.ScanLemmas.{after_char, after_percent, then_scans}
use Rattle.iref_parse.specs.CharRules.{allowed_by}
use Rattle.iref_parse.proofs.scan.after_char_or_escape.Goals as goal

pub returns-in_err-c : goal.returns-in_err-c
returns-in_err-c g c = absurd (omega (arith, c.in_err-c.ensures))

pub returns-in_err-after_digit : goal.returns-in_err-after_digit
returns-in_err-after_digit g c =
    let test = allowed_by g.C.CharSet.tests g.row.RULE in
    subst (ScansTo test 0 0 c.args.text.now) (sym c.from_residual-in_err-after_digit.ensures)
    (after_percent test c.in_ok-c.c _ c.in_ok-c.rest.now c.in_ok-c.ensures.0 c.if-c-eq37.true ∙ c.in_err-after_digit.ensures test 1)

pub returns-in_ok-after_digit : goal.returns-in_ok-after_digit
returns-in_ok-after_digit g c =
    let test = allowed_by g.C.CharSet.tests g.row.RULE in
    let second = c.in_ok-after_digit.ensures test 1 in
    then_scans test 0 1 0 c.args.text.now c.in_ok-after_digit.field-0.now _
    (after_percent test c.in_ok-c.c _ c.in_ok-c.rest.now c.in_ok-c.ensures.0 c.if-c-eq37.true ∙ second.0) (omega (arith, second.1, c.in_ok-c.ensures.1))
    (c.after_digit-then-c-eq37.ensures test 0)

pub returns-then-allows : goal.returns-then-allows
returns-then-allows g c =
    let test = allowed_by g.C.CharSet.tests g.row.RULE in
    let rest = chars c.in_ok-c.rest.now in (
      after_char test c.in_ok-c.c _ _ _ c.in_ok-c.ensures.0 (grind (arith, nat_tests)) c.allows.ensures ∙ ap (λ b. is_encoded_after test (if b then Some 0 else None) rest) c.if-allows.true,
      c.in_ok-c.ensures.1,
    )

pub returns-else-allows : goal.returns-else-allows
returns-else-allows g c =
    let test = allowed_by g.C.CharSet.tests g.row.RULE in
    let rest = chars c.in_ok-c.rest.now in
    after_char test c.in_ok-c.c _ _ _ c.in_ok-c.ensures.0 (grind (arith, nat_tests)) c.allows.ensures ∙ ap (λ b. is_encoded_after test (if b then Some 0 else None) rest) c.if-allows.false
