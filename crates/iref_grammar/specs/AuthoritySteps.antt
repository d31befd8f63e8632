-- The edits of an authority: one part is replaced.
use Rattle.std.specs.Prelude.{Option}
use Rattle.iref_grammar.specs.{Rules.{Text}, Authority.{AuthorityValue}}

abbrev pub with_user_info : Option Text → AuthorityValue → AuthorityValue
with_user_info user_info a = record a { user_info = user_info }

abbrev pub with_host : Text → AuthorityValue → AuthorityValue
with_host host a = record a { host = host }

abbrev pub with_port : Option Text → AuthorityValue → AuthorityValue
with_port port a = record a { port = port }
