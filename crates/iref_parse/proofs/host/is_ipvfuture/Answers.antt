use Rattle.std.proofs.{Common.{None, lit<, sym}, lemmas.Str.Pattern.{strip_prefix_char}}
use Rattle.iref_parse.proofs.LiteralLemmas.{is_ipvfuture-without_v}
use Rattle.iref_parse.proofs.host.is_ipvfuture.Goals as goal

pub returns-in-None-strip_prefix : goal.returns-in-None-strip_prefix
returns-in-None-strip_prefix c =
    sym (is_ipvfuture-without_v c.args.text.now (strip_prefix_char 118 c.args.text.now None c.in-None.ensures.cases (lit< tt))
    (strip_prefix_char 86 c.args.text.now None c.in-None-strip_prefix.ensures.cases (lit< tt)))
