use Rattle.std.proofs.{Common.{Ok, Err, ap, sym, ◌∙◌, List, ℕ}, lemmas.Bool.{false_from_ne_true}}
use Rattle.std.proofs.lemmas.Str.{IsUtf8-from_is_utf8, is_utf8-from_IsUtf8}
use Rattle.iref.specs.{PrefixTable.{NoColon, UnknownLabel, NotAnIri, expanded}, References.{reference_buf_text}}
use Rattle.iref_batch.proofs.PrefixAnswerLemmas.{expand_answer, no_expand_answer}
use Rattle.iref_batch.proofs.answers.prefixes.put_expanded.Goals as goal

pub returns-in_default : goal.returns-in_default
returns-in_default c =
    let text = c.args.text.now in
    rw (no_expand_answer c.args.table.now.entries text (false_from_ne_true _ (λ h. c.in_default.ensures.cases.0 (IsUtf8-from_is_utf8 text h)))) c.put_text.ensures

pub returns-in-Ok-expand : goal.returns-in-Ok-expand
returns-in-Ok-expand c =
    rw (
      expand_answer c.args.table.now.entries c.requires c.args.text.now (Ok (reference_buf_text c.in-Ok-expand.iri)) (is_utf8-from_IsUtf8 _ c.in-Ok.ensures.cases.1)
          (ap (λ (t : List ℕ). expanded t c.args.table.now.entries) (sym c.in-Ok.ensures.cases.0) ∙ c.in-Ok-expand.ensures.ok),
      ← c.as_bytes.ensures,
    ) c.put_answered.ensures

pub returns-in-Err-NoColon : goal.returns-in-Err-NoColon
returns-in-Err-NoColon c =
    rw (
    expand_answer c.args.table.now.entries c.requires c.args.text.now (Err NoColon) (is_utf8-from_IsUtf8 _ c.in-Ok.ensures.cases.1)
    (ap (λ (t : List ℕ). expanded t c.args.table.now.entries) (sym c.in-Ok.ensures.cases.0) ∙ (rw c.in-Err-NoColon.field-0-is at c.in-Err-NoColon.ensures.err))
    ) c.put_text-in-Err-NoColon.ensures

pub returns-in-Err-UnknownLabel : goal.returns-in-Err-UnknownLabel
returns-in-Err-UnknownLabel c =
    rw (
    expand_answer c.args.table.now.entries c.requires c.args.text.now (Err UnknownLabel) (is_utf8-from_IsUtf8 _ c.in-Ok.ensures.cases.1)
    (ap (λ (t : List ℕ). expanded t c.args.table.now.entries) (sym c.in-Ok.ensures.cases.0) ∙ (rw c.in-Err-UnknownLabel.field-0-is at c.in-Err-UnknownLabel.ensures.err))
    ) c.put_text-in-Err-UnknownLabel.ensures

pub returns-in-Err-NotAnIri : goal.returns-in-Err-NotAnIri
returns-in-Err-NotAnIri c =
    rw (
    expand_answer c.args.table.now.entries c.requires c.args.text.now (Err NotAnIri) (is_utf8-from_IsUtf8 _ c.in-Ok.ensures.cases.1)
    (ap (λ (t : List ℕ). expanded t c.args.table.now.entries) (sym c.in-Ok.ensures.cases.0) ∙ (rw c.in-Err-NotAnIri.field-0-is at c.in-Err-NotAnIri.ensures.err))
    ) c.put_text-in-Err-NotAnIri.ensures
