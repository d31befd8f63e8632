-- What proofs see of the slices of an authority, and of its port.
use Rattle.std.specs.{Prelude.{Bool, true, ◌&&◌, ◌==◌, [], ◌∷◌}, Option.{option_copied}, List.{list_all}}
use Rattle.std.specs.Char.{is_ascii_digit}
use Rattle.iref_grammar.specs.{Rules.{Text}, Grammar.{colon}, Authority.{AuthorityValue}}
use Rattle.iref_parse.specs.declared.authority.AuthoritySlices.{AuthoritySlices}

-- the parts that they show
abbrev pub authority_of : AuthoritySlices → AuthorityValue
authority_of a = record { user_info = option_copied a.user_info; host = a.host.now; port = option_copied a.port }

-- nothing, or `:` and a port
abbrev pub is_port_part : Text → Bool
is_port_part [] = true
is_port_part (c ∷ cs) = c == colon && list_all is_ascii_digit cs
