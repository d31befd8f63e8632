-- The parts of a reference's authority, and a reference without its last components.
use Rattle.std.specs.{Prelude.{Option, None, option_map}, Option.{option_and_then}}
use Rattle.iref_grammar.specs.{Rules.{Text}, Authority.{AuthorityValue}, Reference.{ReferenceValue}}
use Rattle.iref_grammar.specs.PathFunctions.{directory}

-- user info, host and port of the authority, where there is one (section 3.2)
abbrev pub user_info_of : ReferenceValue → Option Text
user_info_of r = option_and_then (λ (a : AuthorityValue). a.user_info) r.authority

abbrev pub host_of : ReferenceValue → Option Text
host_of r = option_map (λ (a : AuthorityValue). a.host) r.authority

abbrev pub port_of : ReferenceValue → Option Text
port_of r = option_and_then (λ (a : AuthorityValue). a.port) r.authority

-- `UriRef::without_fragment`
abbrev pub without_fragment : ReferenceValue → ReferenceValue
without_fragment r = record r { fragment = None }

-- `UriRef::without_query_and_fragment`
abbrev pub without_query_and_fragment : ReferenceValue → ReferenceValue
without_query_and_fragment r = record r { query = None; fragment = None }

-- `UriRef::base`: up to the end of the path's directory
unfoldable pub base_of : ReferenceValue → ReferenceValue
base_of r = record (without_query_and_fragment r) { path = directory r.path }
