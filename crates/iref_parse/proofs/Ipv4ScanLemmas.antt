-- What ends an IPv4 address, read in one scan.
use Rattle.std.proofs.Common.{◌≡◌, ℕ, zero, suc, ◌+◌, ◌-◌, ◌*◌, ◌/◌, ◌%◌, ◌<◌, Bool, true, false, not, cond, ◌&&◌, [], ◌∷◌, ◌++◌, append_assoc, refl, sym, ◌∙◌, ap, subst, arith, ◌==◌, nat_lt, decimal, true≢false}
use Rattle.std.proofs.{lemmas.Bool.Decides.{nat_tests}, lemmas.Bool.{eqb-true, and_parts}, lemmas.List.{append-nil}}
use Rattle.std.proofs.lemmas.Fmt.{decimal_digit, decimal_step}
use Rattle.std.specs.Char.{is_ascii_digit}
use Rattle.iref_grammar.specs.{Rules.{Text}, IpAddresses.{IsIpv4, number_of}}
use Rattle.iref_parse.specs.Ipv6Scan.{ends_in_octets}

-- the digits of the octet so far
abbrev Octet : Bool → ℕ → Text → Type 0
Octet true octet front = (octet < 256) × (front ≡ decimal octet)
Octet false octet front = (octet ≡ 0) × (front ≡ [])

one_more : (begun : Bool) (octet c : ℕ) (front : Text) → Octet begun octet front → is_ascii_digit c ≡ true → not (begun && octet == 0) ≡ true → octet * 10 + (c - 48) < 256 → Octet true (octet * 10 + (c - 48)) (front ++ c ∷ [])
one_more false octet c front o d z small =
    let digit : (c - 48 < 10) × (48 + (c - 48) ≡ c) = grind (arith, nat_tests) in
    let same : octet * 10 + (c - 48) ≡ c - 48 = omega (arith, o.0) in
    (small, (λ i. o.1 i ++ c ∷ []) ∙ (λ i. sym digit.1 i ∷ []) ∙ sym (decimal_digit (c - 48) digit.0) ∙ ap decimal (sym same))
one_more true octet c front o d z small =
    let digit : (c - 48 < 10) × (48 + (c - 48) ≡ c) = grind (arith, nat_tests) in
    let some : 0 < octet = grind (arith, nat_tests) in
    let n = octet * 10 + (c - 48) in
    let high : n / 10 ≡ octet = omega (arith, digit.0) in
    let low : 48 + n % 10 ≡ c = omega (arith, digit.0, digit.1) in
    (small, (λ i. o.1 i ++ c ∷ []) ∙ (λ i. decimal (sym high i) ++ sym low i ∷ []) ∙ sym (decimal_step n (omega arith) (omega arith)))

-- an octet, and further ones after a `.` each
abbrev Octets : ℕ → Text → Type 0
Octets zero text = (n : ℕ) × (n < 256) × (text ≡ decimal n)
Octets (suc room) text = (n : ℕ) × (rest : Text) × (n < 256) × (text ≡ decimal n ++ 46 ∷ rest) × Octets room rest

octets_to_end : (room : ℕ) (begun : Bool) (octet : ℕ) (front text : Text) → Octet begun octet front → ends_in_octets room begun octet text ≡ true → Octets room (front ++ text)
octets_to_end zero true octet front [] o h = (octet, o.0, append-nil front ∙ o.1)
octets_to_end zero false octet front [] o h = absurd (true≢false (sym h))
octets_to_end (suc room) begun octet front [] o h = let both = and_parts (suc room == 0) begun h in absurd (omega (arith, eqb-true (suc room) 0 both.0))
octets_to_end room begun octet front (c ∷ cs) o h = by (λ r b n f k e. octets_to_end r b n f cs k e) (is_ascii_digit c) refl h
  where
    next : ℕ
    next = octet * 10 + (c - 48)

    stop : ((r : ℕ) (b : Bool) (n : ℕ) (f : Text) → Octet b n f → ends_in_octets r b n cs ≡ true → Octets r (f ++ cs)) → c ≡ 46 → (r : ℕ) → 0 < r → (b : Bool) → b ≡ true → Octet b octet front → ends_in_octets (r - 1) false 0 cs ≡ true → Octets r (front ++ c ∷ cs)
    stop rest e zero some b t k l = absurd (omega arith)
    stop rest e (suc r) some false t k l = absurd (true≢false (sym t))
    stop rest e (suc r) some true t k l =
        let one : suc r - 1 ≡ r = omega arith in
        (octet, cs, k.0, (λ i. k.1 i ++ e i ∷ cs), rest r false 0 [] (refl, refl) (subst (λ m. ends_in_octets m false 0 cs ≡ true) one l))

    by : ((r : ℕ) (b : Bool) (n : ℕ) (f : Text) → Octet b n f → ends_in_octets r b n cs ≡ true → Octets r (f ++ cs)) → (d : Bool) → is_ascii_digit c ≡ d
        → cond d (not (begun && octet == 0) && (nat_lt next 256 && ends_in_octets room true next cs)) (c == 46 && (begun && (nat_lt 0 room && ends_in_octets (room - 1) false 0 cs))) ≡ true
        → Octets room (front ++ c ∷ cs)
    by rest true e k =
        let zeros = and_parts (not (begun && octet == 0)) (nat_lt next 256 && ends_in_octets room true next cs) k in
        let small = and_parts (nat_lt next 256) (ends_in_octets room true next cs) zeros.1 in
        let less : next < 256 = grind (arith, nat_tests) in
        subst (Octets room) (append_assoc front (c ∷ []) cs) (rest room true next (front ++ c ∷ []) (one_more begun octet c front o e zeros.0 less) small.1)
    by rest false e k =
        let mark = and_parts (c == 46) (begun && (nat_lt 0 room && ends_in_octets (room - 1) false 0 cs)) k in
        let digits = and_parts begun (nat_lt 0 room && ends_in_octets (room - 1) false 0 cs) mark.1 in
        let more = and_parts (nat_lt 0 room) (ends_in_octets (room - 1) false 0 cs) digits.1 in
        let some : 0 < room = grind (arith, nat_tests) in
        stop rest (eqb-true c 46 mark.0) room some begun digits.0 o more.1

-- four of them
pub is_address : (text : Text) → ends_in_octets 3 false 0 text ≡ true → (n : ℕ) × IsIpv4 text n
is_address text h = four (octets_to_end 3 false 0 [] text (refl, refl) h)
  where
    four : Octets 3 text → (n : ℕ) × IsIpv4 text n
    four z =
        let y = z.4 in
        let x = y.4 in
        let w = x.4 in
        let octets = z.0 ∷ y.0 ∷ x.0 ∷ w.0 ∷ [] in (
          number_of 256 octets,
          record {
            a = z.0;
            b = y.0;
            c = x.0;
            d = w.0;
            in_range = (z.2, y.2, x.2, w.1);
            spelled = cc (z.3, y.3, x.3, w.2);
            value = refl;
          },
        )
