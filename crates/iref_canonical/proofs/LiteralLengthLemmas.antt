-- An IPv6 address in brackets has at most 47 bytes, and any IP literal that has more is of a future version.
use Rattle.std.proofs.Common.{◌≡◌, ℕ, ◌+◌, ◌*◌, ◌/◌, ◌%◌, ◌<◌, ◌≤◌, Bool, true, false, ◌&&◌, ◌||◌, List, [], ◌∷◌, ◌++◌, length, refl, sym, ◌∙◌, ap, arith, ◌⊎◌, inl, inr, lit<, length-append, ◌==◌, slice_index, Option, Some, None, codes, decimal, is_some, nat_le, lt_trans, true≢false}
use Rattle.std.proofs.{lemmas.Grind.{common_steps}, lemmas.Fmt.{length-decimal-le}, lemmas.Bool.Decides.{nat_tests}}
use Rattle.std.specs.{List.{AllZip, join_with_byte}, Str.{IsUtf8}}
use Rattle.percent_encoding.specs.Percent.{percent_decode}
use Rattle.percent_encoding.proofs.PercentLemmas.{percent_decode-nil, percent_decode_not_percent}
use Rattle.iref_grammar.specs.{Rules.{Text}, Grammar.{left_bracket, percent_sign, right_bracket}}
use Rattle.iref_grammar.specs.IpAddresses.{IsIpv4, IsGroup, AreGroups, AreLastGroups, IsFullIpv6, IsShortIpv6, ipv6_value}
use Rattle.iref_grammar.specs.Tests.{in_brackets, is_ip_address, is_ip_literal, is_ipv6, is_ipvfuture, some_and}
use Rattle.iref_grammar.proofs.{ComponentLackLemmas.{bracket_parts}, HostRuleLemmas.{Decides-is_ip_literal_bytes}}
use Rattle.iref_grammar.proofs.Ipv6Lemmas.{ipv6_value-sound}

-- ---- texts of groups

groups_length : (pieces : List Text) (groups : List ℕ) → AllZip IsGroup pieces groups → length (join_with_byte 58 pieces) ≤ 5 * length groups
groups_length [] groups z = omega arith
groups_length (p ∷ pieces) [] z = absurd z
groups_length (p ∷ []) (n ∷ ns) z = omega (arith, z.0.short)
groups_length (p ∷ q ∷ pieces) (n ∷ ns) z =
    let rest = groups_length (q ∷ pieces) ns z.1 in
    omega (arith, z.0.short, rest, length-append p (58 ∷ join_with_byte 58 (q ∷ pieces)))

-- with one piece more at the end
ended_length : (pieces : List Text) (last : Text) (groups : List ℕ) → AllZip IsGroup pieces groups → length (join_with_byte 58 (pieces ++ last ∷ [])) ≤ 5 * length groups + length last
ended_length [] last groups z = omega arith
ended_length (p ∷ pieces) last [] z = absurd z
ended_length (p ∷ []) last (n ∷ ns) z = omega (arith, z.0.short, length-append p (58 ∷ last))
ended_length (p ∷ q ∷ pieces) last (n ∷ ns) z =
    let rest = ended_length (q ∷ pieces) last ns z.1 in
    omega (arith, z.0.short, rest, length-append p (58 ∷ join_with_byte 58 (q ∷ pieces ++ last ∷ [])))

octet_length : (n : ℕ) → n < 256 → length (decimal n) ≤ 3
octet_length n h = length-decimal-le 3 n (lit< tt) (lt_trans h (lit< tt)) (lt_trans h (lit< tt))

ipv4_length : (text : Text) (n : ℕ) → IsIpv4 text n → length text ≤ 15
ipv4_length text n v =
    let a = decimal v.a in
    let b = decimal v.b in
    let c = decimal v.c in
    let d = decimal v.d in
    let whole : length text ≡ length (a ++ (46 ∷ (b ++ (46 ∷ (c ++ (46 ∷ d)))))) = ap length v.spelled in
    let third = length-append c (46 ∷ d) in
    let second = length-append b (46 ∷ (c ++ (46 ∷ d))) in
    let first = length-append a (46 ∷ (b ++ (46 ∷ (c ++ (46 ∷ d))))) in
    omega (arith, whole, first, second, third, octet_length v.a v.in_range.0, octet_length v.b v.in_range.1, octet_length v.c v.in_range.2, octet_length v.d v.in_range.3)

first_length : (text : Text) (groups : List ℕ) → AreGroups text groups → length text ≤ 5 * length groups
first_length text groups z = omega (arith, ap length z.2, groups_length z.0 groups z.1)

last_length : (text : Text) (groups : List ℕ) → AreLastGroups text groups → length text ≤ 5 * length groups + 5
last_length text groups (inl z) = omega (arith, first_length text groups z)
last_length text groups (inr z) =
    let front = ended_length z.pieces z.last z.front z.groups_before in
    omega (arith, ap length z.spelled, front, ipv4_length z.last z.n z.ipv4, ap length z.value, length-append z.front (z.n / 65536 ∷ z.n % 65536 ∷ []))

-- ---- addresses

groups_few : (text : Text) (groups : List ℕ) → IsFullIpv6 text groups ⊎ IsShortIpv6 text groups → length text ≤ 45
groups_few text groups (inl z) = omega (arith, last_length text groups z.0, z.1)
groups_few text groups (inr z) =
    omega (
      arith,
      ap length z.spelled,
      length-append (z.before ++ codes "::") z.after,
      length-append z.before (codes "::"),
      first_length z.before z.left z.left_groups,
      last_length z.after z.right z.right_groups,
      z.few,
    )

ipv6_length : (text : Text) → is_ipv6 text ≡ true → length text ≤ 45
ipv6_length text h = by (ipv6_value text) refl h
  where
    by : (o : Option ℕ) → ipv6_value text ≡ o → is_some o ≡ true → length text ≤ 45
    by None e k = absurd (true≢false (sym k))
    by (Some n) e k = let z = ipv6_value-sound text n e in groups_few text z.0 z.1

-- ---- IP literals

-- few bytes that are an IP literal, or an address of a future version in brackets
pub literal_found : (text : Text) → ((nat_le (length text) 47 && is_ip_literal text) || some_and is_ipvfuture (in_brackets text)) ≡ is_ip_literal text
unfolding is_ip_literal
literal_found text = by (in_brackets text) refl
  where
    or_true : (few : Bool) → ((few && true) || true) ≡ true
    or_true true = refl
    or_true false = refl

    no : (few : Bool) → ((few && false) || false) ≡ false
    no true = refl
    no false = refl

    some : (inside : Text) → length text ≡ length inside + 2 → (six future : Bool) → is_ipv6 inside ≡ six → (few : Bool) → nat_le (length text) 47 ≡ few
        → ((few && (six || future)) || future) ≡ (six || future)
    some inside e true true f few g = or_true few
    some inside e false true f few g = or_true few
    some inside e true false f true g = refl
    some inside e true false f false g = absurd (grind (arith, nat_tests, ipv6_length inside f))
    some inside e false false f true g = refl
    some inside e false false f false g = refl

    by : (o : Option Text) → in_brackets text ≡ o → ((nat_le (length text) 47 && some_and is_ip_address o) || some_and is_ipvfuture o) ≡ some_and is_ip_address o
    by None e = no (nat_le (length text) 47)
    by (Some inside) e =
        let parts = bracket_parts text inside e in
        let size : length text ≡ length inside + 2 = omega (arith, ap length parts.1, length-append inside (right_bracket ∷ [])) in
        some inside size (is_ipv6 inside) (is_ipvfuture inside) refl (nat_le (length text) 47) refl

pub literal_left : (text : Text) → (nat_le (length text) 47 && is_ip_literal text) ≡ false → some_and is_ipvfuture (in_brackets text) ≡ is_ip_literal text
literal_left text h = ap (λ few. few || some_and is_ipvfuture (in_brackets text)) (sym h) ∙ literal_found text

-- what begins with neither `[` nor an escape decodes to none
pub no_literal : (text : Text) → (slice_index text 0 == left_bracket || slice_index text 0 == percent_sign) ≡ false → is_ip_literal (percent_decode text) ≡ false
unfolding is_ip_literal
no_literal [] h = ap (λ t. some_and is_ip_address (in_brackets t)) percent_decode-nil
no_literal (c ∷ cs) h = grind (arith, nat_tests, common_steps, percent_decode_not_percent c cs)

-- what is no UTF-8 is no IP literal
pub not_literal : (bytes : Text) → (IsUtf8 bytes → ⊥) → is_ip_literal bytes ≡ false
not_literal bytes other = by (is_ip_literal bytes) refl
  where
    by : (b : Bool) → is_ip_literal bytes ≡ b → b ≡ false
    by false e = refl
    by true e = let z = (Decides-is_ip_literal_bytes bytes).0 e in absurd (other (z.0, (z.1, z.2)))
