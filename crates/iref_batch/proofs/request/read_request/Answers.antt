use Rattle.std.proofs.Common.{◌∙◌, refl, rules, codes}
use Rattle.std.specs.Option.{option_copied}
use Rattle.iref_batch.specs.Lines.{Parts, Resolve, Relative, Normal, Equal, ToUri, Compact, Expand, one_text, text_and_edits, text_and_entries, two_texts}
use Rattle.iref_batch.proofs.FieldLemmas.{verb_read, nothing_read}
use Rattle.iref_batch.proofs.request.read_request.Goals as goal

pub returns-then-is_name : goal.returns-then-is_name
returns-then-is_name c =
    verb_read c.args.line.now (codes "parts") _ (option_copied c.first_field.result.1) (one_text Parts) c.first_field.ensures c.if-is_name.ensures refl ∙ c.one_field.ensures Parts ∙ search rules

pub returns-then-is_name-2 : goal.returns-then-is_name-2
returns-then-is_name-2 c =
    verb_read c.args.line.now (codes "resolve") _ (option_copied c.first_field.result.1) (two_texts Resolve) c.first_field.ensures c.if-is_name-2.ensures refl ∙ c.two_fields.ensures Resolve ∙ search rules

pub returns-then-is_name-3 : goal.returns-then-is_name-3
returns-then-is_name-3 c =
    verb_read c.args.line.now (codes "relative") _ (option_copied c.first_field.result.1) (two_texts Relative) c.first_field.ensures c.if-is_name-3.ensures refl ∙ c.two_fields-then-is_name-3.ensures Relative ∙ search rules

pub returns-then-is_name-4 : goal.returns-then-is_name-4
returns-then-is_name-4 c =
    verb_read c.args.line.now (codes "normal") _ (option_copied c.first_field.result.1) (one_text Normal) c.first_field.ensures c.if-is_name-4.ensures refl ∙ c.one_field-then-is_name-4.ensures Normal ∙ search rules

pub returns-then-is_name-5 : goal.returns-then-is_name-5
returns-then-is_name-5 c =
    verb_read c.args.line.now (codes "equal") _ (option_copied c.first_field.result.1) (two_texts Equal) c.first_field.ensures c.if-is_name-5.ensures refl ∙ c.two_fields-then-is_name-5.ensures Equal ∙ search rules

pub returns-then-is_name-6 : goal.returns-then-is_name-6
returns-then-is_name-6 c =
    verb_read c.args.line.now (codes "edit") _ (option_copied c.first_field.result.1) text_and_edits c.first_field.ensures c.if-is_name-6.ensures refl ∙ c.some_fields.ensures.edits ∙ search rules

pub returns-then-is_name-7 : goal.returns-then-is_name-7
returns-then-is_name-7 c =
    verb_read c.args.line.now (codes "to-uri") _ (option_copied c.first_field.result.1) (one_text ToUri) c.first_field.ensures c.if-is_name-7.ensures refl ∙ c.one_field-then-is_name-7.ensures ToUri ∙ search rules

pub returns-then-is_name-8 : goal.returns-then-is_name-8
returns-then-is_name-8 c =
    verb_read c.args.line.now (codes "compact") _ (option_copied c.first_field.result.1) (text_and_entries Compact) c.first_field.ensures c.if-is_name-8.ensures refl ∙ c.some_fields-then-is_name-8.ensures.entries Compact ∙ search rules

pub returns-then-is_name-9 : goal.returns-then-is_name-9
returns-then-is_name-9 c =
    verb_read c.args.line.now (codes "expand") _ (option_copied c.first_field.result.1) (text_and_entries Expand) c.first_field.ensures c.if-is_name-9.ensures refl ∙ c.some_fields-then-is_name-9.ensures.entries Expand ∙ search rules

pub returns-else-is_name-9 : goal.returns-else-is_name-9
returns-else-is_name-9 c =
    nothing_read c.args.line.now _ (option_copied c.first_field.result.1) c.first_field.ensures c.if-is_name.ensures c.if-is_name-2.ensures c.if-is_name-3.ensures c.if-is_name-4.ensures c.if-is_name-5.ensures c.if-is_name-6.ensures c.if-is_name-7.ensures c.if-is_name-8.ensures c.if-is_name-9.ensures
