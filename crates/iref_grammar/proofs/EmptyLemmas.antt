-- The empty text is in these rules.
use Rattle.std.proofs.Common.{◌≡◌, true, [], refl}
use Rattle.std.specs.Str.{chars, is_utf8}
use Rattle.iref_grammar.specs.Characters.{CharTests}
use Rattle.iref_grammar.specs.Tests.{is_query, is_fragment, is_port, is_pct_str, is_user_info, is_segment, is_host, is_ip_literal, is_reg_name}
use Rattle.iref_grammar.specs.Authority.{is_authority, has_authority_parts, read_authority}
use Rattle.iref_grammar.specs.{Reference.{is_reference, is_readable, read_reference}, PathValue.{read_path}}

pub is_query_empty : (set : CharTests) → is_query set [] ≡ true
unfolding is_query is_utf8 chars
is_query_empty set = refl

pub is_fragment_empty : (set : CharTests) → is_fragment set [] ≡ true
unfolding is_fragment is_utf8 chars
is_fragment_empty set = refl

pub is_port_empty : is_port [] ≡ true
unfolding is_port
is_port_empty = refl

pub is_pct_str_empty : is_pct_str [] ≡ true
unfolding is_pct_str is_utf8 chars
is_pct_str_empty = refl

pub is_reference_empty : (set : CharTests) → is_reference set [] ≡ true
unfolding is_reference is_readable read_reference read_path
is_reference_empty set = refl

pub is_user_info_empty : (set : CharTests) → is_user_info set [] ≡ true
unfolding is_user_info is_utf8 chars
is_user_info_empty set = refl

pub is_segment_empty : (set : CharTests) → is_segment set [] ≡ true
unfolding is_segment is_utf8 chars
is_segment_empty set = refl

pub is_host_empty : (set : CharTests) → is_host set [] ≡ true
unfolding is_host is_ip_literal is_reg_name is_utf8 chars
is_host_empty set = refl

pub is_authority_empty : (set : CharTests) → is_authority set [] ≡ true
unfolding is_authority has_authority_parts read_authority is_host is_ip_literal is_reg_name is_utf8 chars
is_authority_empty set = refl
