-- Percent-encoded texts, and the rules whose texts are among them.
use Rattle.std.proofs.{Common.{arith, ◌≡◌, ℕ, Bool, true, [], ◌∷◌, refl, ◌⊎◌, Option, Some, None, chars}, lemmas.Bool.{and_from}}
use Rattle.std.specs.{Bool.{Decides}, Str.{is_utf8}, List.{list_all}}
use Rattle.iref_grammar.specs.{Rules.{Text, InUtf8}, Characters.{CharTests}}
use Rattle.iref_grammar.specs.Grammar.{percent_sign, is_not_percent, is_user_info_char, is_reg_name_char, is_path_char, is_query_char, is_fragment_char, IsPctStr}
use Rattle.iref_grammar.specs.Tests.{owed_after, is_encoded_after, is_encoded, in_utf8, is_pct_str, is_user_info, is_reg_name, is_segment, is_query, is_fragment, is_ip_literal, is_host}
use Rattle.iref_grammar.proofs.{TextLemmas.{lacks, first_of_both, second_of_both}, LackLemmas.{lacks-append}}
use Rattle.iref_grammar.proofs.{HostLemmas.{address_lacks}, ComponentLackLemmas.{literal_parts}}
use Rattle.iref_grammar.proofs.HostRuleLemmas.{ones_encoded, Decides-is_ip_literal, Decides-is_ip_literal_bytes}
use Rattle.iref_grammar.proofs.{EncodedLemmas.{Decides-is_encoded}, LeafLemmas.{Decides-in_utf8}}

pub Decides-is_pct_str : (bytes : Text) → Decides (is_pct_str bytes) (InUtf8 IsPctStr bytes)
unfolding is_pct_str
Decides-is_pct_str = Decides-in_utf8 _ _ (Decides-is_encoded is_not_percent refl)

-- a character that a rule takes leaves as much owed as in percent-encoded text
refused_or_same : (test : ℕ → Bool) (owed c : ℕ) → (owed_after test owed c ≡ None) ⊎ (owed_after test owed c ≡ owed_after is_not_percent owed c)
unfolding owed_after
refused_or_same test owed c = grind arith

is_pct_str_after : (test : ℕ → Bool) (owed : Option ℕ) (text : Text) → is_encoded_after test owed text ≡ true → is_encoded_after is_not_percent owed text ≡ true
is_pct_str_after test None text h = h
is_pct_str_after test (Some owed) [] h = h
is_pct_str_after test (Some owed) (c ∷ cs) h = grind (arith, refused_or_same, is_pct_str_after test (owed_after test owed c) cs h)

-- a text of any rule of characters and escapes
pub is_pct_str_if_encoded : (test : ℕ → Bool) (bytes : Text) → in_utf8 (is_encoded test) bytes ≡ true → is_pct_str bytes ≡ true
unfolding is_pct_str
is_pct_str_if_encoded test bytes h =
    and_from (is_utf8 bytes) (is_encoded is_not_percent (chars bytes)) (first_of_both (is_utf8 bytes) (is_encoded test (chars bytes)) h)
    (is_pct_str_after test (Some 0) (chars bytes) (second_of_both (is_utf8 bytes) (is_encoded test (chars bytes)) h))

pub user_info_is_pct_str : (set : CharTests) (bytes : Text) → is_user_info set bytes ≡ true → is_pct_str bytes ≡ true
unfolding is_user_info
user_info_is_pct_str set = is_pct_str_if_encoded (is_user_info_char set)

pub reg_name_is_pct_str : (set : CharTests) (bytes : Text) → is_reg_name set bytes ≡ true → is_pct_str bytes ≡ true
unfolding is_reg_name
reg_name_is_pct_str set = is_pct_str_if_encoded (is_reg_name_char set)

pub segment_is_pct_str : (set : CharTests) (bytes : Text) → is_segment set bytes ≡ true → is_pct_str bytes ≡ true
unfolding is_segment
segment_is_pct_str set = is_pct_str_if_encoded (is_path_char set)

pub query_is_pct_str : (set : CharTests) (bytes : Text) → is_query set bytes ≡ true → is_pct_str bytes ≡ true
unfolding is_query
query_is_pct_str set = is_pct_str_if_encoded (is_query_char set)

pub fragment_is_pct_str : (set : CharTests) (bytes : Text) → is_fragment set bytes ≡ true → is_pct_str bytes ≡ true
unfolding is_fragment
fragment_is_pct_str set = is_pct_str_if_encoded (is_fragment_char set)

-- ---- hosts

pub literal_lacks : (text : Text) → is_ip_literal text ≡ true → lacks percent_sign text ≡ true
literal_lacks text h = grind (arith, literal_parts, lacks-append, address_lacks)

none_percent : (text : Text) → lacks percent_sign text ≡ true → list_all is_not_percent text ≡ true
none_percent [] h = refl
none_percent (c ∷ cs) h = grind (arith, none_percent cs)

literal_is_pct_str : (bytes : Text) → is_ip_literal bytes ≡ true → is_pct_str bytes ≡ true
literal_is_pct_str bytes h =
    let z = (Decides-is_ip_literal_bytes bytes).0 h in
    let taken = ones_encoded is_not_percent refl z.0 (none_percent z.0 (literal_lacks z.0 ((Decides-is_ip_literal z.0).1 z.3))) in
    (Decides-is_pct_str bytes).1 (z.0, z.1, z.2, (Decides-is_encoded is_not_percent refl z.0).0 taken)

pub host_is_pct_str : (set : CharTests) (bytes : Text) → is_host set bytes ≡ true → is_pct_str bytes ≡ true
unfolding is_host
host_is_pct_str set bytes h = grind (arith, literal_is_pct_str, reg_name_is_pct_str)
