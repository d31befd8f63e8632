-- The canonical components of a key are in their rules, and have it as their key.
use Rattle.std.proofs.Common.{◌≡◌, ℕ, Bool, true, false, cond, ◌||◌, All, [], ◌∷◌, refl, ap, arith, Option, Some, None, option_map, IfSome}
use Rattle.std.proofs.{lemmas.Grind.{common_steps}, lemmas.Bool.{and_from, or_right}, lemmas.Bool.Decides.{nat_tests}}
use Rattle.std.specs.{Char.{is_ascii_alphabetic, to_ascii_lowercase}, List.{list_all}, Str.{str_to_ascii_lowercase}}
use Rattle.percent_encoding.specs.Percent.{percent_sign, percent_decode}
use Rattle.percent_encoding.proofs.PercentLemmas.{IsByte, percent_decode-nil, percent_decode_not_percent}
use Rattle.iref_grammar.specs.{Characters.{uri_chars, uri_above_ascii}, Rules.{Text}}
use Rattle.iref_grammar.specs.{Grammar.{is_scheme_char, is_user_info_char, is_reg_name_char}, Texts.{lacks}}
use Rattle.iref_grammar.specs.Tests.{none_or, is_scheme, is_user_info, is_reg_name, is_ip_literal, is_host, is_port}
use Rattle.iref_grammar.specs.Authority.{AuthorityValue, has_authority_parts}
use Rattle.iref_grammar.proofs.{TextLemmas.{first_of_both, second_of_both}, PctLemmas.{literal_lacks}}
use Rattle.iref_grammar.proofs.LeafLemmas.{Decides-is_user_info, Decides-is_reg_name}
use Rattle.iref_grammar.specs.AuthorityKey.{authority_key}
use Rattle.iref_canonical.specs.Canonical.{encoded, canonical_host, canonical_authority}
use Rattle.iref_canonical.proofs.EncodedTextLemmas.{IsPlain, decoded-encoded, encoded-in}
use Rattle.iref_canonical.proofs.PlainCharacterLemmas.{plain_name, plain_user_info}

-- ---- schemes

lower_letter : (c : ℕ) → is_ascii_alphabetic c ≡ true → is_ascii_alphabetic (to_ascii_lowercase c) ≡ true
lower_letter c h = grind (arith, nat_tests)

lower_scheme_char : (c : ℕ) → is_scheme_char c ≡ true → is_scheme_char (to_ascii_lowercase c) ≡ true
lower_scheme_char c h = grind (arith, nat_tests)

lower_again : (c : ℕ) → to_ascii_lowercase (to_ascii_lowercase c) ≡ to_ascii_lowercase c
lower_again c = grind (arith, nat_tests)

lower_scheme_chars : (cs : Text) → list_all is_scheme_char cs ≡ true → list_all is_scheme_char (str_to_ascii_lowercase cs) ≡ true
lower_scheme_chars [] h = refl
lower_scheme_chars (c ∷ cs) h =
    and_from _ _ (lower_scheme_char c (first_of_both (is_scheme_char c) (list_all is_scheme_char cs) h)) (lower_scheme_chars cs (second_of_both (is_scheme_char c) (list_all is_scheme_char cs) h))

-- a scheme in lower case is a scheme
pub lower_scheme : (text : Text) → is_scheme text ≡ true → is_scheme (str_to_ascii_lowercase text) ≡ true
unfolding is_scheme
lower_scheme [] h = h
lower_scheme (c ∷ cs) h =
    and_from _ _ (lower_letter c (first_of_both (is_ascii_alphabetic c) (list_all is_scheme_char cs) h)) (lower_scheme_chars cs (second_of_both (is_ascii_alphabetic c) (list_all is_scheme_char cs) h))

pub lower_case_again : (text : Text) → str_to_ascii_lowercase (str_to_ascii_lowercase text) ≡ str_to_ascii_lowercase text
lower_case_again [] = refl
lower_case_again (c ∷ cs) = λ i. lower_again c i ∷ lower_case_again cs i

-- ---- hosts

pub decoded-lacks : (text : Text) → lacks percent_sign text ≡ true → percent_decode text ≡ text
decoded-lacks [] h = percent_decode-nil
decoded-lacks (c ∷ cs) h = grind (arith, common_steps, percent_decode_not_percent, decoded-lacks cs)

-- an IP literal has no escape
decoded-literal : (text : Text) → is_ip_literal text ≡ true → percent_decode text ≡ text
decoded-literal text h = decoded-lacks text (literal_lacks text h)

decoded-host : (host : Text) → All IsByte host → percent_decode (canonical_host host) ≡ host
decoded-host host small = by (is_ip_literal host) refl
  where
    by : (literal : Bool) → is_ip_literal host ≡ literal → percent_decode (cond literal host (encoded (is_reg_name_char uri_chars) host)) ≡ host
    by true e = decoded-literal host e
    by false e = decoded-encoded (is_reg_name_char uri_chars) plain_name host small

is_host-canonical : (host : Text) → is_host uri_chars (canonical_host host) ≡ true
unfolding is_host
is_host-canonical host = by (is_ip_literal host) refl
  where
    by : (literal : Bool) → is_ip_literal host ≡ literal → let text = cond literal host (encoded (is_reg_name_char uri_chars) host) in (is_ip_literal text || is_reg_name uri_chars text) ≡ true
    by true e = λ i. e i || is_reg_name uri_chars host
    by false e =
        let text = encoded (is_reg_name_char uri_chars) host in
        or_right (is_ip_literal text) (is_reg_name uri_chars text) ((Decides-is_reg_name uri_chars uri_above_ascii text).1 (encoded-in (is_reg_name_char uri_chars) plain_name host))

-- ---- parts that may be absent

pub option-decoded : (test : ℕ → Bool) → IsPlain test → (o : Option Text) → IfSome o (All IsByte) → option_map percent_decode (option_map (encoded test) o) ≡ o
option-decoded test plain None small = refl
option-decoded test plain (Some bytes) small = ap (λ t. Some t) (decoded-encoded test plain bytes small)

pub none_or-map : {A B : Type 0} (test : B → Bool) (f : A → B) → ((x : A) → test (f x) ≡ true) → (o : Option A) → none_or test (option_map f o) ≡ true
none_or-map test f passes None = refl
none_or-map test f passes (Some x) = passes x

-- ---- authorities

-- what the key of an authority is
pub record IsAuthorityKey (a : AuthorityValue) : Type 0 where
  pub user_info : IfSome a.user_info (All IsByte)
  pub host : All IsByte a.host
  pub port : none_or is_port a.port ≡ true

pub authority_key-canonical : (a : AuthorityValue) → IsAuthorityKey a → authority_key (canonical_authority a) ≡ a
authority_key-canonical a h = λ i. record {
  user_info = option-decoded (is_user_info_char uri_chars) plain_user_info a.user_info h.user_info i;
  host = decoded-host a.host h.host i;
  port = a.port;
}

is_user_info-encoded : (bytes : Text) → is_user_info uri_chars (encoded (is_user_info_char uri_chars) bytes) ≡ true
is_user_info-encoded bytes =
    (Decides-is_user_info uri_chars uri_above_ascii (encoded (is_user_info_char uri_chars) bytes)).1 (encoded-in (is_user_info_char uri_chars) plain_user_info bytes)

pub has_parts-canonical : (a : AuthorityValue) → IsAuthorityKey a → has_authority_parts uri_chars (canonical_authority a) ≡ true
unfolding has_authority_parts
has_parts-canonical a h =
    and_from _ _ (and_from _ _ (none_or-map (is_user_info uri_chars) (encoded (is_user_info_char uri_chars)) is_user_info-encoded a.user_info) (is_host-canonical a.host)) h.port
