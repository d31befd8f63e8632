use Rattle.std.specs.Option.{option_copied}
use Rattle.iref.specs.Characters.{iri_chars}
use Rattle.iref_batch.specs.{Lines.{are_valid_entries}, Fields.{fields_of}, PrefixFields.{entries_read}}
use Rattle.iref_batch.specs.Requests.{asked_of}
use Rattle.iref_batch.proofs.{AnswerLemmas.{refusal}, PrefixAnswerLemmas.{unfit_entries}}
use Rattle.iref_batch.proofs.answers.prefixes.put_answer_by_table.Goals as goal

pub returns-in-Err : goal.returns-in-Err
returns-in-Err c =
    let text = c.args.text.now in
    let read = entries_read (fields_of (option_copied c.args.fields)) in
    c.put_refused.ensures _ (refusal (are_valid_entries iri_chars) (asked_of c.args.verb text) read c.in-Err.error (unfit_entries c.args.verb text) c.in-Err.ensures)
