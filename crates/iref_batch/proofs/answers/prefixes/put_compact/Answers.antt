use Rattle.std.proofs.Common.{Some, None}
use Rattle.iref.specs.{Prefixes.{compact_value}, References.{reference_text}}
use Rattle.iref_batch.proofs.PrefixAnswerLemmas.{compact_answer, no_compact_answer}
use Rattle.iref_batch.proofs.answers.prefixes.put_compact.Goals as goal

pub returns-in_default : goal.returns-in_default
returns-in_default c = rw (no_compact_answer c.args.table.now.entries c.args.text.now c.in_default.ensures.0) c.put_text.ensures

pub returns-in-Some : goal.returns-in-Some
returns-in-Some c =
    rw (
    compact_answer c.args.table.now.entries c.requires c.args.text.now (reference_text c.in-Ok.iri) (Some (compact_value c.in-Some.short)) c.in-Ok.ensures.0
    c.in-Ok.ensures.1 c.in-Some.ensures.compacted
    ) c.put_short.ensures

pub returns-in-None : goal.returns-in-None
returns-in-None c =
    rw (
    compact_answer c.args.table.now.entries c.requires c.args.text.now (reference_text c.in-Ok.iri) None c.in-Ok.ensures.0
    c.in-Ok.ensures.1 c.in-None.ensures.compacted
    ) c.put_answered.ensures
