-- IPv4 addresses: the computed value is the one of the rule.
use Rattle.std.proofs.Common.{◌≡◌, ℕ, ◌^◌, ◌<◌, Bool, true, false, cond, ◌&&◌, List, [], ◌∷◌, map, refl, sym, ◌∙◌, ap, subst, arith, lit<, nat_lt, bytes_eq, decimal, Option, Some, None, option_and_then, lt_trans}
use Rattle.std.proofs.{lemmas.Fmt.{decimal_is_IsNumeral}, lemmas.Bool.Decides.{nat_tests}, lemmas.Bool.{and_from}}
use Rattle.std.specs.{List.{AllZip, join_with_byte}, Str.Parse.{digits_value, AllDigits}}
use Rattle.std.specs.Cmp.Lexicographic.{bytes_decides}
use Rattle.iref_grammar.specs.{Rules.{Text}, Texts.{pieces_at}}
use Rattle.iref_grammar.specs.IpAddresses.{IsIpv4, all_some, octet_value, four_octets, ipv4_value}
use Rattle.iref_grammar.proofs.TextLemmas.{lacks, pieces_at-join, join-pieces_at}

-- the octet and its text
pub octet_text : (text : Text) (n : ℕ) → octet_value text ≡ Some n → (n < 256) × (text ≡ decimal n)
octet_text text n h = by (nat_lt (digits_value 10 text) 256) refl (bytes_eq text (decimal (digits_value 10 text))) refl h
  where
    value : ℕ
    value = digits_value 10 text

    by : (a : Bool) → nat_lt (digits_value 10 text) 256 ≡ a → (b : Bool) → bytes_eq text (decimal (digits_value 10 text)) ≡ b → cond (a && b) (Some (digits_value 10 text)) None ≡ Some n → (n < 256) × (text ≡ decimal n)
    by true e true f k =
        let same : digits_value 10 text ≡ n = ap (λ o. elim o as (λ p. ℕ) [ None ↦ 0 | Some x ↦ x ]) k in
        let less : digits_value 10 text < 256 = grind (arith, nat_tests) in
        (subst (λ x. x < 256) same less, (bytes_decides text (decimal (digits_value 10 text))).0 f ∙ ap decimal same)
    by true e false f k = cc
    by false e b f k = cc

-- a piece that writes an octet
abbrev WritesOctet : Text → ℕ → Type 0
WritesOctet text n = (n < 256) × (text ≡ decimal n)

octets_text : (pieces : List Text) (octets : List ℕ) → all_some (map octet_value pieces) ≡ Some octets → AllZip WritesOctet pieces octets
octets_text [] [] h = tt
octets_text [] (n ∷ ns) h = cc
octets_text (p ∷ pieces) octets h = grind (arith, octet_text, octets_text pieces)

pub ipv4_value-sound : (text : Text) (n : ℕ) → ipv4_value text ≡ Some n → IsIpv4 text n
unfolding ipv4_value
ipv4_value-sound text n h = by (all_some (map octet_value (pieces_at 46 text))) refl h
  where
    four : (pieces : List Text) (octets : List ℕ) → join_with_byte 46 pieces ≡ text → AllZip WritesOctet pieces octets → four_octets octets ≡ Some n → IsIpv4 text n
    four pieces [] j z k = cc
    four pieces (a ∷ []) j z k = cc
    four pieces (a ∷ b ∷ []) j z k = cc
    four pieces (a ∷ b ∷ c ∷ []) j z k = cc
    four (p ∷ q ∷ r ∷ s ∷ []) (a ∷ b ∷ c ∷ d ∷ []) j z k = grind arith
    four [] (a ∷ b ∷ c ∷ d ∷ []) j z k = absurd z
    four (p ∷ []) (a ∷ b ∷ c ∷ d ∷ []) j z k = absurd z.1
    four (p ∷ q ∷ []) (a ∷ b ∷ c ∷ d ∷ []) j z k = absurd z.1.1
    four (p ∷ q ∷ r ∷ []) (a ∷ b ∷ c ∷ d ∷ []) j z k = absurd z.1.1.1
    four (p ∷ q ∷ r ∷ s ∷ t ∷ pieces) (a ∷ b ∷ c ∷ d ∷ []) j z k = absurd z.1.1.1.1
    four pieces (a ∷ b ∷ c ∷ d ∷ e ∷ octets) j z k = grind arith

    by : (o : Option (List ℕ)) → all_some (map octet_value (pieces_at 46 text)) ≡ o → option_and_then four_octets o ≡ Some n → IsIpv4 text n
    by None e k = cc
    by (Some octets) e k = four (pieces_at 46 text) octets (join-pieces_at 46 text) (octets_text (pieces_at 46 text) octets e) k

-- digits are no full stop
digits_lack_stop : (ds : Text) → AllDigits 10 ds → lacks 46 ds ≡ true
digits_lack_stop [] h = refl
digits_lack_stop (c ∷ cs) h = grind (arith, digits_lack_stop cs h.1)

pub wide : (n : ℕ) → n < 256 → n < 2 ^ 64
wide n h = lt_trans h (lit< tt)

pub decimal_lacks_stop : (n : ℕ) → n < 256 → lacks 46 (decimal n) ≡ true
decimal_lacks_stop n h = digits_lack_stop (decimal n) ((decimal_is_IsNumeral n (wide n h)).0.1)

pub octet_of_decimal : (n : ℕ) → n < 256 → octet_value (decimal n) ≡ Some n
octet_of_decimal n h =
    let value : digits_value 10 (decimal n) ≡ n = (decimal_is_IsNumeral n (wide n h)).1 in
    let less : nat_lt n 256 ≡ true = grind (arith, nat_tests) in
    let same : bytes_eq (decimal n) (decimal n) ≡ true = (bytes_decides (decimal n) (decimal n)).1 refl in
    (λ i. cond (nat_lt (value i) 256 && bytes_eq (decimal n) (decimal (value i))) (Some (value i)) None) ∙ (λ i. cond (less i && same i) (Some n) None)

pub ipv4_value-complete : (text : Text) (n : ℕ) → IsIpv4 text n → ipv4_value text ≡ Some n
unfolding ipv4_value
ipv4_value-complete text n v =
    let la = decimal_lacks_stop v.a v.in_range.0 in
    let lb = decimal_lacks_stop v.b v.in_range.1 in
    let lc = decimal_lacks_stop v.c v.in_range.2 in
    let ld = decimal_lacks_stop v.d v.in_range.3 in
    let lack = and_from (lacks 46 (decimal v.a)) _ la (and_from (lacks 46 (decimal v.b)) _ lb (and_from (lacks 46 (decimal v.c)) _ lc (and_from (lacks 46 (decimal v.d)) true ld refl))) in
    let pieces : pieces_at 46 text ≡ decimal v.a ∷ decimal v.b ∷ decimal v.c ∷ decimal v.d ∷ [] = ap (pieces_at 46) v.spelled ∙ pieces_at-join 46 (decimal v.a) (decimal v.b ∷ decimal v.c ∷ decimal v.d ∷ []) lack in
    ap (λ ps. option_and_then four_octets (all_some (map octet_value ps))) pieces
    ∙ (λ i. option_and_then four_octets (all_some (octet_of_decimal v.a v.in_range.0 i ∷ octet_of_decimal v.b v.in_range.1 i ∷ octet_of_decimal v.c v.in_range.2 i ∷ octet_of_decimal v.d v.in_range.3 i ∷ [])))
    ∙ ap (λ m. Some m) (sym v.value)
