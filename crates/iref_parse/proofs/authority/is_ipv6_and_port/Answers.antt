use Rattle.std.proofs.{Common.{◌∙◌, sym, ap, Some, lit<}, lemmas.Str.Pattern.{strip_prefix_char}}
use Rattle.std.specs.Option.{option_copied}
use Rattle.iref_grammar.specs.Grammar.{left_bracket}
use Rattle.iref_parse.specs.AuthoritySlices.{is_port_part}
use Rattle.iref_parse.proofs.AuthorityLemmas.{address_authority}
use Rattle.iref_parse.proofs.authority.is_ipv6_and_port.Goals as goal

pub returns-then-is_ipv6 : goal.returns-then-is_ipv6
returns-then-is_ipv6 c port =
    let bracket = strip_prefix_char left_bracket c.args.text.now (Some c.in-Some.rest) c.in-Some.ensures.cases (lit< tt) in
    address_authority c.args.text.now c.in-Some.rest.now c.cut.result.0.now c.in_default-Some.end.now bracket c.cut.ensures.before (ap option_copied (sym c.in_default-Some.is-1) ∙ c.cut.ensures.after)
    (sym c.is_ipv6.ensures ∙ c.if-is_ipv6.true)
    (ap (λ e. is_port_part e.now) (sym c.in_default-Some.end-is) ∙ ap is_port_part (sym c.as_bytes.ensures.value) ∙ sym c.is_port_part.ensures ∙ port)
