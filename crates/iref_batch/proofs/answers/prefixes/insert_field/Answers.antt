use Rattle.std.proofs.Common.{◌∙◌, ap, sym}
use Rattle.std.specs.Option.{option_copied}
use Rattle.iref.specs.PrefixTable.{BadLabel, PrefixEntry, Taken, inserted}
use Rattle.iref_batch.proofs.PrefixFieldLemmas.{field_read, iri_accepted, no_iri_no_entry, no_text_no_label, refused_entry}
use Rattle.iref_batch.proofs.answers.prefixes.insert_field.Goals as goal

pub returns-in_default-from_utf8-clause-err : goal.returns-in_default-from_utf8-clause-err
returns-in_default-from_utf8-clause-err c =
    let e : PrefixEntry = record { label = c.cut_bytes.result.0.now; iri = c.in-Some.iri.now } in
    let read = field_read c.args.field.now e.label e.iri (option_copied c.cut_bytes.result.1) c.cut_bytes.ensures.before c.cut_bytes.ensures.after (ap option_copied c.in-Some.is) in
    (e, read, no_text_no_label c.args.table.now e c.requires c.in_default-from_utf8.ensures.cases.0)

pub returns-in_default-from_bytes-clause-err : goal.returns-in_default-from_bytes-clause-err
returns-in_default-from_bytes-clause-err c =
    let e : PrefixEntry = record { label = c.cut_bytes.result.0.now; iri = c.in-Some.iri.now } in
    let read = field_read c.args.field.now e.label e.iri (option_copied c.cut_bytes.result.1) c.cut_bytes.ensures.before c.cut_bytes.ensures.after (ap option_copied c.in-Some.is) in
    (e, read, no_iri_no_entry c.args.table.now e c.in_default-from_bytes.ensures.0)

pub returns-in-Ok-insert-clause-ok : goal.returns-in-Ok-insert-clause-ok
returns-in-Ok-insert-clause-ok c =
    let e : PrefixEntry = record { label = c.cut_bytes.result.0.now; iri = c.in-Some.iri.now } in
    let read = field_read c.args.field.now e.label e.iri (option_copied c.cut_bytes.result.1) c.cut_bytes.ensures.before c.cut_bytes.ensures.after (ap option_copied c.in-Some.is) in
    (e, read, iri_accepted e.iri c.in-Ok-from_bytes.ensures.0, (λ i. inserted (sym c.in-Ok.ensures.cases.0 i) (sym c.in-Ok-from_bytes.ensures.1 i) c.args.table.now) ∙ c.in-Ok-insert.ensures.ok)

pub returns-in-Err-BadLabel-clause-err : goal.returns-in-Err-BadLabel-clause-err
returns-in-Err-BadLabel-clause-err c =
    let e : PrefixEntry = record { label = c.cut_bytes.result.0.now; iri = c.in-Some.iri.now } in
    let read = field_read c.args.field.now e.label e.iri (option_copied c.cut_bytes.result.1) c.cut_bytes.ensures.before c.cut_bytes.ensures.after (ap option_copied c.in-Some.is) in
    (e, read, refused_entry c.args.table.now e BadLabel ((λ i. inserted (sym c.in-Ok.ensures.cases.0 i) (sym c.in-Ok-from_bytes.ensures.1 i) c.args.table.now) ∙ (rw c.in-Err-BadLabel.field-0-is at c.in-Err-BadLabel.ensures.err)))

pub returns-in-Err-Taken-clause-err : goal.returns-in-Err-Taken-clause-err
returns-in-Err-Taken-clause-err c =
    let e : PrefixEntry = record { label = c.cut_bytes.result.0.now; iri = c.in-Some.iri.now } in
    let read = field_read c.args.field.now e.label e.iri (option_copied c.cut_bytes.result.1) c.cut_bytes.ensures.before c.cut_bytes.ensures.after (ap option_copied c.in-Some.is) in
    (e, read, refused_entry c.args.table.now e Taken ((λ i. inserted (sym c.in-Ok.ensures.cases.0 i) (sym c.in-Ok-from_bytes.ensures.1 i) c.args.table.now) ∙ (rw c.in-Err-Taken.field-0-is at c.in-Err-Taken.ensures.err)))
