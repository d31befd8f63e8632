-- What authorities are compared by, also in their order.
use Rattle.std.specs.{Prelude.{option_map}, Option.{option_cmp}, Ordering.{ordering_then}}
use Rattle.std.specs.Cmp.{IsTotalOrder, then_total, on_total}
use Rattle.std.specs.{Cmp.Lexicographic.{nat_list_cmp_total, options_total, on_texts}, declared.cmp.Ordering.{Ordering}}
use Rattle.percent_encoding.specs.Percent.{percent_decode}
use Rattle.iref_grammar.specs.{Authority.{AuthorityValue}, Keys.{text_order}}

-- user info and host as decoded bytes, the port as text
abbrev pub authority_key : AuthorityValue → AuthorityValue
authority_key a = record { user_info = option_map percent_decode a.user_info; host = percent_decode a.host; port = a.port }

-- the order of keys, part by part, one that is absent first
abbrev pub authority_key_cmp : AuthorityValue → AuthorityValue → Ordering
authority_key_cmp a b =
    ordering_then (option_cmp text_order a.user_info b.user_info) (ordering_then (text_order a.host b.host) (option_cmp text_order a.port b.port))

-- keys are in a total order
pub authority_keys_total : IsTotalOrder authority_key_cmp
authority_keys_total =
    then_total (on_total (λ (a : AuthorityValue). a.user_info) (options_total nat_list_cmp_total))
    (then_total (on_texts (λ (a : AuthorityValue). a.host)) (on_total (λ (a : AuthorityValue). a.port) (options_total nat_list_cmp_total)))
