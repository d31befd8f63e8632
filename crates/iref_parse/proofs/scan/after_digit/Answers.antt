use Rattle.std.proofs.{Common.{◌∙◌, ap, chars, arith, Some, None, if◌then◌else◌}, lemmas.Grind.{common_steps}}
use Rattle.iref_grammar.specs.Tests.{is_encoded_after}
use Rattle.iref_parse.proofs.ScanLemmas.{after_hexdigit, none_is_owed}
use Rattle.iref_parse.proofs.scan.after_digit.Goals as goal

pub returns-then-is_ascii_hexdigit : goal.returns-then-is_ascii_hexdigit
returns-then-is_ascii_hexdigit c allowed owed =
    let rest = chars c.in_ok-c.rest.now in (
      after_hexdigit allowed owed c.in_ok-c.c _ _ _ c.in_ok-c.ensures.0 c.is_ascii_hexdigit.ensures.value ∙ ap (λ b. is_encoded_after allowed (if b then Some owed else None) rest) c.if-is_ascii_hexdigit.true,
      c.in_ok-c.ensures.1,
    )

pub returns-else-is_ascii_hexdigit : goal.returns-else-is_ascii_hexdigit
returns-else-is_ascii_hexdigit c allowed owed =
    let rest = chars c.in_ok-c.rest.now in
    after_hexdigit allowed owed c.in_ok-c.c _ _ _ c.in_ok-c.ensures.0 c.is_ascii_hexdigit.ensures.value ∙ ap (λ b. is_encoded_after allowed (if b then Some owed else None) rest) c.if-is_ascii_hexdigit.false

pub returns-in_err-c : goal.returns-in_err-c
returns-in_err-c c allowed owed = grind (arith, common_steps, none_is_owed)
