use Rattle.std.proofs.{Common.{None, lit<, ap, sym, ◌∙◌}, lemmas.Str.Pattern.{strip_prefix_char}}
use Rattle.std.specs.Option.{option_copied}
use Rattle.iref_grammar.specs.Grammar.{left_bracket}
use Rattle.iref_parse.proofs.LiteralLemmas.{in_brackets-unbracketed}
use Rattle.iref_parse.proofs.host.in_brackets.Goals as goal

pub returns-in_err-strip_prefix : goal.returns-in_err-strip_prefix
returns-in_err-strip_prefix c =
    ap option_copied c.from_residual.ensures
    ∙ sym (in_brackets-unbracketed c.args.text.now (strip_prefix_char left_bracket c.args.text.now None c.in_err-strip_prefix.ensures.cases (lit< tt)))
