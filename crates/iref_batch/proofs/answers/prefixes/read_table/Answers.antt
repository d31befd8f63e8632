use Rattle.std.proofs.Common.{sym, subst, true}
use Rattle.std.specs.Option.{option_copied}
use Rattle.iref.specs.PrefixTable.{PrefixesValue}
use Rattle.iref_batch.specs.Fields.{fields_of}
use Rattle.iref_batch.proofs.PrefixFieldLemmas.{Reading, reading_begun, reading_more, reading_invalid}
use Rattle.iref_batch.proofs.answers.prefixes.read_table.Goals as goal

pub loop-field-init : goal.loop-field-init
loop-field-init c =
    let all = fields_of (option_copied c.args.fields) in
    subst (λ (t : PrefixesValue). Reading all all t true) (sym c.new-table.ensures) (reading_begun all)

pub loop-field-preserved-in-Ok : goal.loop-field-preserved-in-Ok
loop-field-preserved-in-Ok c = reading_more _ _ _ _ _ _ _ c.in-Some.ensures c.in-Ok.ensures.ok c.loop-field.invariant

pub loop-field-preserved : goal.loop-field-preserved
loop-field-preserved c =
    rw c.in-Err-Invalid.ensures.unchanged (reading_invalid _ _ _ _ _ _ c.in-Some.ensures (rw c.in-Err-Invalid.field-0-is at c.in-Err-Invalid.ensures.err) c.loop-field.invariant)

pub insert_field-requires : goal.insert_field-requires
insert_field-requires c = c.loop-field.invariant.labels
