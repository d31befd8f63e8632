use Rattle.std.proofs.{Common.{arith, rules, codes, ◌≡◌, ◌∙◌, string_bytes}, lemmas.Grind.{common_steps}}
use Rattle.clap.specs.Words.{found_of}
use Rattle.iref_batch.specs.Lines.{yes_or_no}
use Rattle.iref_reference.specs.References.{reference_text}
use Rattle.iref_tool.specs.Words.{word}
use Rattle.iref_tool.proofs.ReplyLemmas.{equal_said}
use Rattle.iref_tool.proofs.question.equal.Goals.{then-equal, else-equal}
use Rattle.iref_tool.proofs.question.equal.Goals as goal

pub returns : goal.returns
returns c =
    let found = found_of c.args.matches.now in
    let put : string_bytes c.in_ok-or.field-0 ≡ c.if-equal.from_str.now = search rules in
    let said : c.if-equal.from_str.now ≡ yes_or_no c.eq-equal.result = elim c.if-equal.branch [
      | then-equal w ↦ grind (arith, common_steps, w.if-equal.true, w.from_str-is)
      | else-equal w ↦ grind (arith, common_steps, w.if-equal.false, w.from_str-is)
    ] in
    equal_said (word found (codes "FIRST")) (word found (codes "SECOND")) (reference_text c.in_ok-reference_of.field-0) (reference_text c.in_ok-reference_of-2.field-0) _ c.eq-equal.result
    c.in_ok-reference_of.ensures.1 c.in_ok-reference_of-2.ensures.1 c.in_ok-reference_of.ensures.0 c.in_ok-reference_of-2.ensures.0 c.eq-equal.ensures (put ∙ said)
