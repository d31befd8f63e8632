use Rattle.std.proofs.{Common.{◌∙◌, sym, lit<, Some, None}, lemmas.Str.Pattern.{split_once_first}}
use Rattle.iref_parse.proofs.OctetLemmas.{octet_values-first, octet_values-refused, octet_values-one}
use Rattle.iref_parse.proofs.ip.take_octet.Goals as goal

pub returns-in_err-octet : goal.returns-in_err-octet
returns-in_err-octet c = rw c.from_residual.ensures (octet_values-one c.args.text.now (split_once_first 46 c.args.text.now None c.in_err-octet.ensures.cases (lit< tt)))

pub returns-in_err-octet_value : goal.returns-in_err-octet_value
returns-in_err-octet_value c =
    let parts = split_once_first 46 c.args.text.now (Some (c.in_ok-octet.octet, c.in_ok-octet.rest)) c.in_ok-octet.ensures.cases (lit< tt) in
    rw c.from_residual-in_err-octet_value.ensures (octet_values-refused c.args.text.now c.in_ok-octet.octet.now parts.0 parts.1 (sym c.octet_value.ensures ∙ c.in_err-octet_value.was))

pub returns : goal.returns
returns c =
    let parts = split_once_first 46 c.args.text.now (Some (c.in_ok-octet.octet, c.in_ok-octet.rest)) c.in_ok-octet.ensures.cases (lit< tt) in
    octet_values-first c.args.text.now c.in_ok-octet.octet.now c.in_ok-octet.rest.now _ parts.0 parts.1 parts.2 (sym c.octet_value.ensures ∙ c.in_ok-octet_value.was)
