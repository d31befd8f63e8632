use Rattle.iref_parse.specs.Encoded.{is_plain_char}
use Rattle.iref_parse.proofs.EncodedTextLemmas.{escape_step}
use Rattle.std.proofs.Common.{sym, ◌∙◌}
use Rattle.iref_parse.proofs.encoded.after_escape.Goals as goal

pub returns-in-len3-up : goal.returns-in-len3-up
returns-in-len3-up g c =
    escape_step (is_plain_char g.C.CharSet.tests) c.args.text.now c.in-len3-up.len_at_least c.requires (sym c.is_ascii_hexdigit.ensures.value ∙ c.if-is_ascii_hexdigit.true)
    (sym c.is_ascii_hexdigit-then-is_ascii_hexdigit.ensures.value ∙ c.if-is_ascii_hexdigit-2.true)
