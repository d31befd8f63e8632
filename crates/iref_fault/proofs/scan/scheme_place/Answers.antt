use Rattle.std.proofs.{Common.{arith, length, slice_index, sym, ap, ◌∙◌}, lemmas.Grind.{common_steps}}
use Rattle.std.proofs.lemmas.Bool.Decides.{nat_tests}
use Rattle.std.specs.Char.{is_ascii_alphabetic}
use Rattle.iref_fault.proofs.OnesPlaceLemmas.{scheme_in_bytes, empty_scheme, no_letter}
use Rattle.iref_fault.proofs.scan.scheme_place.Goals.{then-is_empty-via-then-is_empty, then-is_empty-via-else-is_empty+then-not-is_ascii_alphabetic}
use Rattle.iref_fault.proofs.scan.scheme_place.Goals as goal

pub returns-then-is_empty : goal.returns-then-is_empty
returns-then-is_empty c =
    let text = c.args.text.now in
    let same = c.as_bytes-bytes.ensures.value in
    elim c.then-is_empty.branch [
      | then-is_empty-via-then-is_empty w ↦ sym (empty_scheme text (grind (arith, nat_tests, w.if-is_empty.true, c.is_empty.ensures, ap length same)))
      | then-is_empty-via-else-is_empty+then-not-is_ascii_alphabetic w ↦
          sym (no_letter text c.utf8.text (ap (λ t. is_ascii_alphabetic (slice_index t 0)) (sym same) ∙ sym w.is_ascii_alphabetic.ensures.value ∙ w.if-not-is_ascii_alphabetic.true))
    ]

pub returns : goal.returns
returns c = grind (arith, common_steps, nat_tests, scheme_in_bytes)
