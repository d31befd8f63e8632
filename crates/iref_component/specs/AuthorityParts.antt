-- What the parts of an authority are, and what they are compared by.
use Rattle.std.specs.Prelude.{option_map}
use Rattle.iref_grammar.specs.Authority.{AuthorityValue}
use Rattle.iref_grammar.specs.AuthorityKey.{authority_key}
use Rattle.iref_component.specs.{Components.{text_of}, declared.authority_parts.AuthorityParts.{AuthorityParts}}

abbrev pub parts_value : {C : _} {c : _} → AuthorityParts C c → AuthorityValue
parts_value p = record { user_info = option_map text_of p.user_info; host = text_of p.host; port = option_map text_of p.port }

abbrev pub parts_key : {C : _} {c : _} → AuthorityParts C c → AuthorityValue
parts_key p = authority_key (parts_value p)
