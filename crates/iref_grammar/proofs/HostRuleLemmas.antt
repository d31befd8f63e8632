-- IPvFuture, IP literal and host: each test decides its rule.
use Rattle.std.proofs.Common.{◌≡◌, ℕ, ◌<◌, ◌≤◌, Bool, true, false, not, cond, ◌&&◌, List, [], ◌∷◌, ◌++◌, refl, sym, ◌∙◌, ap, subst, arith, ◌⊎◌, inl, inr, lit<, ◌==◌, codes, decimal, Option, Some, None, is_some, lt_trans, true≢false}
use Rattle.std.proofs.{lemmas.Grind.{common_steps}, lemmas.Fmt.{decimal_is_IsNumeral}}
use Rattle.std.proofs.{lemmas.Bool.Decides.{nat_tests, Decides-like, Decides-or}, lemmas.Bool.{and_from}}
use Rattle.std.specs.{Bool.{Decides}, List.{list_all, join_with_byte}}
use Rattle.std.specs.{Char.{is_ascii, is_ascii_hexdigit, char_set_contains, digit_value}, Str.Parse.{AllDigits}}
use Rattle.iref_grammar.specs.Characters.{CharTests, AreAboveAscii}
use Rattle.iref_grammar.specs.Rules.{Text, Rule, OneOf, OneOrMore, ◌or◌, InUtf8}
use Rattle.iref_grammar.specs.Grammar.{full_stop, left_bracket, right_bracket, percent_sign, is_future_char, is_reg_name_char, IsIpv4Address, IsIpv6Address, IsIpvFuture, IsIpLiteral, IsRegName, IsHost}
use Rattle.iref_grammar.specs.{IpAddresses.{ipv4_value, ipv6_value}, Texts.{before, after, is_empty, then_part}}
use Rattle.iref_grammar.specs.Tests.{is_encoded, is_future_version, is_future_address, is_ipvfuture, is_ip_address, is_ipv4, is_ipv6, in_brackets, is_ip_literal, ends_here, is_reg_name, is_host}
use Rattle.iref_grammar.proofs.{TextLemmas.{lacks, first_of_both, second_of_both}, RuleLemmas.{Decides-ones}}
use Rattle.iref_grammar.proofs.EncodedLemmas.{take_char, Decides-is_encoded}
use Rattle.iref_grammar.proofs.LackLemmas.{all_lacks, lacks_more, lacks-append}
use Rattle.iref_grammar.proofs.LeafLemmas.{percent_refused, Decides-is_reg_name}
use Rattle.iref_grammar.proofs.CutLemmas.{cut, before-part, after-part}
use Rattle.iref_grammar.proofs.{HostLemmas.{IsOutside, ipv4_lacks, address_lacks}, ComponentLackLemmas.{literal_parts}}
use Rattle.iref_grammar.proofs.Ipv4Lemmas.{ipv4_value-sound, ipv4_value-complete}
use Rattle.iref_grammar.proofs.{Ipv4RuleLemmas.{ipv4_number, ipv4_in_rule}, Ipv6Lemmas.{ipv6_value-sound}}
use Rattle.iref_grammar.proofs.{Ipv6CompleteLemmas.{ipv6_value-complete}, Ipv6RuleLemmas.{ipv6_number, ipv6_in_rule}}
use Rattle.iref_grammar.proofs.Utf8RuleLemmas.{in_utf8-ascii, ascii_from_lacks}

pub Decides-one_or_more : (test : ℕ → Bool) (text : Text) → Decides (not (is_empty text) && list_all test text) (OneOrMore (OneOf test) text)
Decides-one_or_more test text = (there text, λ z. subst (λ t. (not (is_empty t) && list_all test t) ≡ true) z.4 (back z.0 z.1 z.2 ((Decides-ones test z.1).1 z.3)))
  where
    there : (t : Text) → (not (is_empty t) && list_all test t) ≡ true → OneOrMore (OneOf test) t
    there [] h = absurd (true≢false (sym h))
    there (c ∷ cs) h = (c ∷ [], cs, (c, first_of_both (test c) (list_all test cs) h, refl), (Decides-ones test cs).0 (second_of_both (test c) (list_all test cs) h), refl)

    back : (front rest : Text) → OneOf test front → list_all test rest ≡ true → (not (is_empty (front ++ rest)) && list_all test (front ++ rest)) ≡ true
    back front rest one h = ap (λ f. not (is_empty (f ++ rest)) && list_all test (f ++ rest)) one.2 ∙ and_from (test one.0) (list_all test rest) one.1 h

-- ---- IPvFuture

future_there : (text : Text) → is_ipvfuture text ≡ true → IsIpvFuture text
unfolding is_ipvfuture
future_there [] h = absurd (true≢false (sym h))
future_there (c ∷ cs) h =
    let v = char_set_contains (codes "vV") c in
    let n = is_future_version (before (full_stop ∷ []) cs) in
    let a = is_future_address (after full_stop cs) in
    let front = first_of_both (v && n) a h in
    by (after full_stop cs) (cut full_stop cs) (second_of_both (v && n) a h) (first_of_both v n front) ((Decides-one_or_more is_ascii_hexdigit (before (full_stop ∷ []) cs)).0 (second_of_both v n front))
  where
    by : (o : Option Text) → before (full_stop ∷ []) cs ++ then_part (full_stop ∷ []) o ≡ cs → is_future_address o ≡ true → char_set_contains (codes "vV") c ≡ true → OneOrMore (OneOf is_ascii_hexdigit) (before (full_stop ∷ []) cs) → IsIpvFuture (c ∷ cs)
    by None e k letter version = absurd (true≢false (sym k))
    by (Some rest) e k letter version =
        (c ∷ [], cs, (c, letter, refl), (before (full_stop ∷ []) cs, full_stop ∷ rest, version, (full_stop ∷ [], rest, refl, (Decides-one_or_more is_future_char rest).0 k, refl), e), refl)

future_parts : (c : ℕ) (version address : Text) → char_set_contains (codes "vV") c ≡ true → is_future_version version ≡ true → is_future_address (Some address) ≡ true → is_ipvfuture (c ∷ (version ++ full_stop ∷ address)) ≡ true
unfolding is_ipvfuture
future_parts c version address h k l =
    let stop = all_lacks is_ascii_hexdigit full_stop refl version (second_of_both (not (is_empty version)) (list_all is_ascii_hexdigit version) k) in
    let cs = version ++ full_stop ∷ address in
    (λ i. (char_set_contains (codes "vV") c && is_future_version (before-part full_stop version (Some address) stop i)) && is_future_address (after-part full_stop version (Some address) stop i))
    ∙ and_from (char_set_contains (codes "vV") c && is_future_version version) (is_future_address (Some address)) (and_from (char_set_contains (codes "vV") c) (is_future_version version) h k) l

future_back : (text : Text) → IsIpvFuture text → is_ipvfuture text ≡ true
future_back text z = grind (arith, future_parts, Decides-one_or_more)

pub Decides-is_ipvfuture : (text : Text) → Decides (is_ipvfuture text) (IsIpvFuture text)
Decides-is_ipvfuture text = (future_there text, future_back text)

-- ---- IP literals

pub Decides-is_ipv6 : (text : Text) → Decides (is_ipv6 text) (IsIpv6Address text)
Decides-is_ipv6 text = (by (ipv6_value text) refl, λ h. let z = ipv6_number text h in ap is_some (ipv6_value-complete text z.0 z.1))
  where
    by : (o : Option ℕ) → ipv6_value text ≡ o → is_some o ≡ true → IsIpv6Address text
    by None e h = absurd (true≢false (sym h))
    by (Some n) e h = ipv6_in_rule text n (ipv6_value-sound text n e)

pub Decides-is_ip_address : (text : Text) → Decides (is_ip_address text) ((IsIpv6Address or IsIpvFuture) text)
Decides-is_ip_address text = Decides-or (is_ipv6 text) (is_ipvfuture text) (Decides-is_ipv6 text) (Decides-is_ipvfuture text)

pub right_outside : IsOutside right_bracket
right_outside = record { hex = refl; digit = refl; not_colon = refl; not_stop = refl; future = refl }

brackets-read : (inside : Text) → lacks right_bracket inside ≡ true → in_brackets (left_bracket ∷ (inside ++ right_bracket ∷ [])) ≡ Some inside
brackets-read inside h =
    λ i. cond (ends_here (after-part right_bracket inside (Some []) h i)) (Some (before-part right_bracket inside (Some []) h i)) None

literal_back : (text : Text) → IsIpLiteral text → is_ip_literal text ≡ true
unfolding is_ip_literal
literal_back text z = grind (arith, Decides-is_ip_address, brackets-read, address_lacks)

pub Decides-is_ip_literal : (text : Text) → Decides (is_ip_literal text) (IsIpLiteral text)
Decides-is_ip_literal text = grind (arith, literal_back, literal_parts, Decides-is_ip_address)

-- an IP literal is ASCII
high_outside : (mark : ℕ) → 128 ≤ mark → IsOutside mark
high_outside mark h = grind (arith, common_steps)

no_version : (mark : ℕ) → 128 ≤ mark → char_set_contains (codes "vV") mark ≡ false
no_version mark h = grind (arith, nat_tests)

no_bracket : (bracket mark : ℕ) → bracket < 128 → 128 ≤ mark → (bracket == mark) ≡ false
no_bracket bracket mark h k = grind (arith, nat_tests)

pub literal_ascii : (text : Text) → IsIpLiteral text → list_all is_ascii text ≡ true
literal_ascii text z = ascii_from_lacks text (λ m h. lack m h)
  where
    lack : (mark : ℕ) → 128 ≤ mark → lacks mark text ≡ true
    lack mark h =
        let p = literal_parts text (literal_back text z) in
        subst (λ t. lacks mark t ≡ true) p.3
        (lacks-append mark (left_bracket ∷ p.0) (right_bracket ∷ []) (lacks_more mark left_bracket p.0 (no_bracket left_bracket mark (lit< tt) h) (address_lacks mark (high_outside mark h) (no_version mark h) p.0 p.1))
        (lacks_more mark right_bracket [] (no_bracket right_bracket mark (lit< tt) h) refl))

-- ---- IP addresses and literals, as bytes

Decides-is_ipv4 : (text : Text) → Decides (is_ipv4 text) (IsIpv4Address text)
unfolding is_ipv4
Decides-is_ipv4 text = (by (ipv4_value text) refl, λ h. let z = ipv4_number text h in ap is_some (ipv4_value-complete text z.0 z.1))
  where
    by : (o : Option ℕ) → ipv4_value text ≡ o → is_some o ≡ true → IsIpv4Address text
    by None e h = absurd (true≢false (sym h))
    by (Some n) e h = ipv4_in_rule text n (ipv4_value-sound text n e)

-- a test that decides a rule of ASCII decides it of bytes
Decides-ascii : (test : Text → Bool) (A : Rule) → ((t : Text) → A t → list_all is_ascii t ≡ true) → ((t : Text) → Decides (test t) (A t))
    → (bytes : Text) → Decides (test bytes) (InUtf8 A bytes)
Decides-ascii test A ascii decides bytes = Decides-like (test bytes) (in_utf8-ascii A ascii bytes).1 (in_utf8-ascii A ascii bytes).0 (decides bytes)

address_ascii : (text : Text) → (IsIpv6Address or IsIpvFuture) text → list_all is_ascii text ≡ true
address_ascii text z = ascii_from_lacks text (λ m h. address_lacks m (high_outside m h) (no_version m h) text ((Decides-is_ip_address text).1 z))

pub Decides-is_ip_literal_bytes : (bytes : Text) → Decides (is_ip_literal bytes) (InUtf8 IsIpLiteral bytes)
Decides-is_ip_literal_bytes = Decides-ascii is_ip_literal IsIpLiteral literal_ascii Decides-is_ip_literal

ipv4_ascii : (text : Text) → IsIpv4Address text → list_all is_ascii text ≡ true
ipv4_ascii text h = let z = ipv4_number text h in ascii_from_lacks text (λ m outside. ipv4_lacks m (high_outside m outside) text z.0 z.1)

pub Decides-is_ipv4_bytes : (bytes : Text) → Decides (is_ipv4 bytes) (InUtf8 IsIpv4Address bytes)
Decides-is_ipv4_bytes = Decides-ascii is_ipv4 IsIpv4Address ipv4_ascii Decides-is_ipv4

pub Decides-is_ipv6_bytes : (bytes : Text) → Decides (is_ipv6 bytes) (InUtf8 IsIpv6Address bytes)
Decides-is_ipv6_bytes = Decides-ascii is_ipv6 IsIpv6Address (λ t z. address_ascii t (inl z)) Decides-is_ipv6

pub Decides-is_ipvfuture_bytes : (bytes : Text) → Decides (is_ipvfuture bytes) (InUtf8 IsIpvFuture bytes)
Decides-is_ipvfuture_bytes = Decides-ascii is_ipvfuture IsIpvFuture (λ t z. address_ascii t (inr z)) Decides-is_ipvfuture

-- ---- an IPv4 address is also a reg-name

pub ones_encoded : (test : ℕ → Bool) → test percent_sign ≡ false → (text : Text) → list_all test text ≡ true → is_encoded test text ≡ true
ones_encoded test safe [] h = refl
ones_encoded test safe (c ∷ cs) h = grind (arith, take_char, ones_encoded test safe cs)

pub join_all : (test : ℕ → Bool) (sep : ℕ) → test sep ≡ true → (pieces : List Text) → list_all (list_all test) pieces ≡ true → list_all test (join_with_byte sep pieces) ≡ true
join_all test sep h [] k = refl
join_all test sep h (p ∷ []) k = first_of_both (list_all test p) true k
join_all test sep h (p ∷ q ∷ pieces) k = grind (arith, common_steps, join_all test sep h (q ∷ pieces))

module _ (set : CharTests) (above : AreAboveAscii set) where
  reg_name_digit : (c : ℕ) → digit_value c < 10 → is_reg_name_char set c ≡ true
  unfolding is_reg_name_char
  reg_name_digit c h = grind arith

  reg_name_stop : is_reg_name_char set full_stop ≡ true
  unfolding is_reg_name_char
  reg_name_stop = refl

  reg_name_digits : (ds : Text) → AllDigits 10 ds → list_all (is_reg_name_char set) ds ≡ true
  reg_name_digits [] h = refl
  reg_name_digits (c ∷ cs) h = and_from (is_reg_name_char set c) (list_all (is_reg_name_char set) cs) (reg_name_digit c h.0) (reg_name_digits cs h.1)

  pub ipv4_reg_name : (text : Text) → IsIpv4Address text → IsRegName set text
  ipv4_reg_name text h =
      let v = (ipv4_number text h).1 in
      let test = is_reg_name_char set in
      let d = λ (n : ℕ) (h : n < 256). reg_name_digits (decimal n) ((decimal_is_IsNumeral n (lt_trans h (lit< tt))).0.1) in
      let ones = join_all test 46 reg_name_stop (decimal v.a ∷ decimal v.b ∷ decimal v.c ∷ decimal v.d ∷ [])
      (and_from (list_all test (decimal v.a)) _ (d v.a v.in_range.0) (and_from (list_all test (decimal v.b)) _ (d v.b v.in_range.1) (and_from (list_all test (decimal v.c)) _ (d v.c v.in_range.2) (and_from (list_all test (decimal v.d)) true (d v.d v.in_range.3) refl)))) in
      (Decides-is_encoded test (percent_refused set above) text).0 (ones_encoded test (percent_refused set above) text (ap (list_all test) v.spelled ∙ ones))

  -- ---- hosts

  pub Decides-is_host : (bytes : Text) → Decides (is_host set bytes) (InUtf8 (IsHost set) bytes)
  unfolding is_host is_ip_literal
  Decides-is_host bytes = Decides-like (is_host set bytes) there (λ z. back z.0 z.1 z.2 z.3) (Decides-or (is_ip_literal bytes) (is_reg_name set bytes) (Decides-is_ip_literal bytes) (Decides-is_reg_name set above bytes))
    where
      there : IsIpLiteral bytes ⊎ InUtf8 (IsRegName set) bytes → InUtf8 (IsHost set) bytes
      there (inl l) = let u = (in_utf8-ascii IsIpLiteral literal_ascii bytes).1 l in (u.0, u.1, u.2, inl u.3)
      there (inr r) = (r.0, r.1, r.2, inr (inr r.3))

      back : (t : Text) → Rattle.std.specs.Str.all_scalars t ≡ true → Rattle.std.specs.Prelude.encode_utf8_all t ≡ bytes → IsHost set t → IsIpLiteral bytes ⊎ InUtf8 (IsRegName set) bytes
      back t s e (inl l) = inl ((in_utf8-ascii IsIpLiteral literal_ascii bytes).0 (t, s, e, l))
      back t s e (inr (inl v)) = inr (t, s, e, ipv4_reg_name t v)
      back t s e (inr (inr r)) = inr (t, s, e, r)
