-- The rule of IPv4 addresses: they are the texts of four numbers below 256 in decimal digits.
use Rattle.std.proofs.Common.{◌≡◌, ℕ, ◌+◌, ◌*◌, ◌-◌, ◌/◌, ◌%◌, ◌<◌, ◌≤◌, true, List, [], ◌∷◌, ◌++◌, length, refl, sym, ◌∙◌, ap, subst, arith, inl, inr, decimal}
use Rattle.std.proofs.{lemmas.Grind.{common_steps}, lemmas.Fmt.{decimal_digit, decimal_step}}
use Rattle.std.proofs.lemmas.Bool.Decides.{nat_tests, leb_tells}
use Rattle.std.specs.{Char.{is_ascii_digit}, Int.{is_in_range}, List.{AllByRecursion, concat}}
use Rattle.iref_grammar.specs.{Rules.{Text, OneOf}, Grammar.{full_stop, IsDecOctet, IsIpv4Address}}
use Rattle.iref_grammar.specs.IpAddresses.{IsIpv4, number_of}
use Rattle.iref_grammar.proofs.Ipv4Lemmas.{wide}

-- ---- a number below 256 in decimal digits

two_digits : (n : ℕ) → 10 ≤ n → n < 100 → decimal n ≡ (48 + n / 10) ∷ (48 + n % 10) ∷ []
two_digits n low high = decimal_step n low (wide n (omega arith)) ∙ ap (λ t. t ++ (48 + n % 10) ∷ []) (decimal_digit (n / 10) (omega arith))

three_digits : (n : ℕ) → 100 ≤ n → n < 256 → decimal n ≡ (48 + n / 100) ∷ (48 + n / 10 % 10) ∷ (48 + n % 10) ∷ []
three_digits n low high = grind (arith, decimal_step, two_digits)

-- what the number of a text of digits is written as
pub WritesOctet : Text → Type 0
WritesOctet text = (n : ℕ) × (n < 256) × (text ≡ decimal n)

in_range : (low high c : ℕ) → is_in_range low high c ≡ true → (low ≤ c) × (c ≤ high)
in_range low high c h = (grind (arith, nat_tests), grind (arith, nat_tests))

digit : (c : ℕ) → is_ascii_digit c ≡ true → (48 ≤ c) × (c ≤ 57)
digit c h = in_range 48 57 c h

from_one : (a : ℕ) → (48 ≤ a) × (a ≤ 57) → WritesOctet (a ∷ [])
unfolding WritesOctet
from_one a h =
    let n = a - 48 in
    let first : a ≡ 48 + n = omega (arith, h.0) in
    (n, omega (arith, h.1), ap (λ c. c ∷ []) first ∙ sym (decimal_digit n (omega (arith, h.1))))

from_two : (a b : ℕ) → (49 ≤ a) × (a ≤ 57) → (48 ≤ b) × (b ≤ 57) → WritesOctet (a ∷ b ∷ [])
unfolding WritesOctet
from_two a b h k =
    let n = (a - 48) * 10 + (b - 48) in
    let first : a ≡ 48 + n / 10 = omega (arith, h.0, h.1, k.0, k.1) in
    let second : b ≡ 48 + n % 10 = omega (arith, h.0, h.1, k.0, k.1) in
    (n, omega (arith, h.1, k.1), (λ i. first i ∷ second i ∷ []) ∙ sym (two_digits n (omega (arith, h.0)) (omega (arith, h.1, k.1))))

from_three : (a b c : ℕ) → (49 ≤ a) × (a ≤ 57) → (48 ≤ b) × (b ≤ 57) → (48 ≤ c) × (c ≤ 57) → (a - 48) * 100 + (b - 48) * 10 + (c - 48) < 256 → WritesOctet (a ∷ b ∷ c ∷ [])
unfolding WritesOctet
from_three a b c h k l less =
    let n = (a - 48) * 100 + (b - 48) * 10 + (c - 48) in
    let first : a ≡ 48 + n / 100 = omega (arith, h.0, h.1, k.0, k.1, l.0, l.1) in
    let second : b ≡ 48 + n / 10 % 10 = omega (arith, h.0, h.1, k.0, k.1, l.0, l.1) in
    let third : c ≡ 48 + n % 10 = omega (arith, h.0, h.1, k.0, k.1, l.0, l.1) in
    (n, less, (λ i. first i ∷ second i ∷ third i ∷ []) ∙ sym (three_digits n (omega (arith, h.0)) less))

octet_there : (text : Text) → IsDecOctet text → WritesOctet text
unfolding IsDecOctet
octet_there text (inl z) = subst WritesOctet (sym z.2) (from_one z.0 (digit z.0 z.1))
octet_there text (inr (inl z)) = grind (arith, from_two)
octet_there text (inr (inr (inl z))) = by z.3.0 z.3.1 z.3.2 z.3.3 (ap (λ t. z.0 ++ t) z.3.4 ∙ z.4)
  where
    by : (pieces : List Text) → AllByRecursion (OneOf is_ascii_digit) pieces → 2 ≤ length pieces → length pieces ≤ 2 → z.0 ++ concat pieces ≡ text → WritesOctet text
    by [] all low high e = absurd (omega arith)
    by (p ∷ []) all low high e = absurd (omega arith)
    by (p ∷ q ∷ []) all low high e = grind (arith, common_steps, digit, from_three)
    by (p ∷ q ∷ r ∷ pieces) all low high e = absurd (omega arith)
octet_there text (inr (inr (inr (inl z)))) = grind (arith, from_three)
octet_there text (inr (inr (inr (inr z)))) = grind (arith, from_three)

-- a character in the range
ranged : (low high c : ℕ) → low ≤ c → c ≤ high → is_in_range low high c ≡ true
ranged low high c h k = grind (arith, nat_tests)

one : (low high c : ℕ) → low ≤ c → c ≤ high → OneOf (is_in_range low high) (c ∷ [])
one low high c h k = (c, ranged low high c h k, refl)

octet_back : (n : ℕ) → n < 256 → IsDecOctet (decimal n)
unfolding IsDecOctet
octet_back n h = elim (leb_tells 10 n) [
  | inr e ↦ inl (subst (OneOf is_ascii_digit) (sym (decimal_digit n e.1)) (one 48 57 (48 + n) (omega arith) (omega (arith, e.1))))
  | inl e ↦ elim (leb_tells 100 n) [
    | inr f ↦ inr (inl (
      (48 + n / 10) ∷ [],
      (48 + n % 10) ∷ [],
      one 49 57 (48 + n / 10) (omega (arith, e.1)) (omega (arith, f.1)),
      one 48 57 (48 + n % 10) (omega arith) (omega arith),
      sym (two_digits n e.1 f.1),
    ))
    | inl f ↦ big f.1
  ]
]
  where
    third : OneOf is_ascii_digit ((48 + n % 10) ∷ [])
    third = one 48 57 (48 + n % 10) (omega arith) (omega arith)

    second : Text
    second = (48 + n / 10 % 10) ∷ []

    big : 100 ≤ n → IsDecOctet (decimal n)
    big g = elim (leb_tells 200 n) [
      | inr e ↦
          let first : 48 + n / 100 ≡ 49 = omega (arith, e.1, g) in
          let tail = second ++ (48 + n % 10) ∷ [] in
          inr (inr (inl (
            49 ∷ [],
            tail,
            refl,
            (second ∷ ((48 + n % 10) ∷ []) ∷ [], (one 48 57 (48 + n / 10 % 10) (omega arith) (omega arith), (third, tt)), omega arith, omega arith, refl),
            (λ i. sym first i ∷ tail) ∙ sym (three_digits n g h),
          )))
      | inl e ↦ elim (leb_tells 250 n) [
        | inr f ↦
            let first : 48 + n / 100 ≡ 50 = omega (arith, e.1, f.1) in
            let tail = second ++ (48 + n % 10) ∷ [] in
            inr (inr (inr (inl (
              50 ∷ [],
              tail,
              refl,
              (second, (48 + n % 10) ∷ [], one 48 52 (48 + n / 10 % 10) (omega arith) (omega (arith, e.1, f.1)), third, refl),
              (λ i. sym first i ∷ tail) ∙ sym (three_digits n g h),
            ))))
        | inl f ↦
            let first : 48 + n / 100 ≡ 50 = omega (arith, f.1) in
            let middle : 48 + n / 10 % 10 ≡ 53 = omega (arith, f.1) in
            inr (inr (inr (inr (
              50 ∷ 53 ∷ [],
              (48 + n % 10) ∷ [],
              refl,
              one 48 53 (48 + n % 10) (omega arith) (omega (arith, f.1)),
              (λ i. sym first i ∷ sym middle i ∷ (48 + n % 10) ∷ []) ∙ sym (three_digits n g h),
            ))))
      ]
    ]

-- ---- addresses

octet_then : (text front back mark rest tail : Text) (n : ℕ) → front ++ back ≡ text → mark ++ rest ≡ back → front ≡ decimal n → mark ≡ full_stop ∷ [] → rest ≡ tail → text ≡ decimal n ++ full_stop ∷ tail
octet_then text front back mark rest tail n e k octet stop last = sym ((λ i. sym octet i ++ (sym stop i ++ sym last i)) ∙ ap (λ t. front ++ t) k ∙ e)

pub ipv4_number : (text : Text) → IsIpv4Address text → (n : ℕ) × IsIpv4 text n
unfolding IsIpv4Address WritesOctet
ipv4_number text z =
    let y = z.3.3 in
    let x = y.3.3 in
    let a = octet_there z.0 z.2 in
    let b = octet_there y.0 y.2 in
    let c = octet_there x.0 x.2 in
    let d = octet_there x.3.1 x.3.3 in (
      number_of 256 (a.0 ∷ b.0 ∷ c.0 ∷ d.0 ∷ []),
      record {
        a = a.0;
        b = b.0;
        c = c.0;
        d = d.0;
        in_range = (a.1, b.1, c.1, d.1);
        spelled =
            octet_then text z.0 z.1 z.3.0 z.3.1 _ a.0 z.4 z.3.4 a.2 z.3.2
            (octet_then z.3.1 y.0 y.1 y.3.0 y.3.1 _ b.0 y.4 y.3.4 b.2 y.3.2 (octet_then y.3.1 x.0 x.1 x.3.0 x.3.1 _ c.0 x.4 x.3.4 c.2 x.3.2 d.2));
        value = refl;
      },
    )

pub ipv4_in_rule : (text : Text) (n : ℕ) → IsIpv4 text n → IsIpv4Address text
unfolding IsIpv4Address
ipv4_in_rule text n v = grind (arith, octet_back)
