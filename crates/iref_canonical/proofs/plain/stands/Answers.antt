use Rattle.std.proofs.Common.{sym, ◌∙◌, ap}
use Rattle.std.specs.List.{list_all}
use Rattle.iref_grammar.specs.Grammar.{is_not_percent}
use Rattle.iref_canonical.specs.Decoded.{are_standing}
use Rattle.iref_canonical.proofs.PlainTextLemmas.{raw_standing}
use Rattle.iref_canonical.proofs.plain.stands.Goals as goal

pub returns-then-raw : goal.returns-then-raw
returns-then-raw c =
    c.has_no_percent.ensures ∙ ap (list_all is_not_percent) c.as_bytes.ensures.value
    ∙ raw_standing c.args.text.now c.utf8.text ∙ ap (λ raw. are_standing raw c.args.text.now) (sym c.if-raw.true)
