-- The rule of IPv6 addresses: they are the texts of eight groups, in full or with `::`.
use Rattle.std.proofs.Common.{◌≡◌, ℕ, zero, suc, ◌+◌, ◌/◌, ◌%◌, ◌≤◌, Bool, true, List, [], ◌∷◌, ◌++◌, length, map, refl, sym, ◌∙◌, ap, subst, arith, append_assoc, append-nil, length-append, inl, inr, codes}
use Rattle.std.proofs.{lemmas.Grind.{common_steps}, lemmas.List.{length-map}}
use Rattle.std.specs.Char.{is_ascii_hexdigit}
use Rattle.std.specs.{List.{AllByRecursion, AllZip, concat, list_all, join_with_byte}, Str.Parse.{digits_value}}
use Rattle.iref_grammar.specs.Rules.{Text, Rule, OneOf, ◌⨾◌, Optional, Exactly, AtMost}
use Rattle.iref_grammar.specs.Grammar.{IsH16, IsH16Colon, IsLs32, IsIpv6Address}
use Rattle.iref_grammar.specs.IpAddresses.{IsGroup, AreGroups, AreLastGroups, IsIpv6, number_of, filled_groups}
use Rattle.iref_grammar.proofs.{RuleLemmas.{Decides-ones}, TextLemmas.{first_of_both, second_of_both}}
use Rattle.iref_grammar.proofs.Ipv4RuleLemmas.{ipv4_number, ipv4_in_rule}

-- ---- a number of characters that pass a test

length_of_ones : (test : ℕ → Bool) (pieces : List Text) → AllByRecursion (OneOf test) pieces → length (concat pieces) ≡ length pieces
length_of_ones test [] all = refl
length_of_ones test (p ∷ pieces) all = ap (λ q. length (q ++ concat pieces)) all.0.2 ∙ ap suc (length_of_ones test pieces all.1)

ones_of : (test : ℕ → Bool) (text : Text) → list_all test text ≡ true → (pieces : List Text) × AllByRecursion (OneOf test) pieces × (length pieces ≡ length text) × (concat pieces ≡ text)
ones_of test [] h = ([], tt, refl, refl)
ones_of test (c ∷ cs) h =
    let rest = ones_of test cs (second_of_both (test c) (list_all test cs) h) in
    ((c ∷ []) ∷ rest.0, ((c, first_of_both (test c) (list_all test cs) h, refl), rest.1), ap suc rest.2, ap (λ t. c ∷ t) rest.3)

-- ---- groups

group_there : (text : Text) → IsH16 text → IsGroup text (digits_value 16 text)
unfolding IsH16
group_there text z =
    let len : length text ≡ length z.0 = ap length (sym z.4) ∙ length_of_ones is_ascii_hexdigit z.0 z.1 in
    record { nonempty = omega (arith, z.2, len); short = omega (arith, z.3, len); digits = (Decides-ones is_ascii_hexdigit text).1 (z.0, z.1, z.4); value = refl }

group_back : (text : Text) (n : ℕ) → IsGroup text n → IsH16 text
unfolding IsH16
group_back text n g = grind (arith, ones_of)

groups_there : (pieces : List Text) → AllByRecursion IsH16 pieces → AllZip IsGroup pieces (map (digits_value 16) pieces)
groups_there [] all = tt
groups_there (p ∷ pieces) all = (group_there p all.0, groups_there pieces all.1)

groups_back : (pieces : List Text) (groups : List ℕ) → AllZip IsGroup pieces groups → AllByRecursion IsH16 pieces × (length pieces ≡ length groups)
groups_back [] [] z = (tt, refl)
groups_back [] (n ∷ ns) z = absurd z
groups_back (p ∷ pieces) [] z = absurd z
groups_back (p ∷ pieces) (n ∷ ns) z = let rest = groups_back pieces ns z.1 in ((group_back p n z.0, rest.0), ap suc rest.1)

all-append : (xs ys : List Text) → AllByRecursion IsH16 xs → AllByRecursion IsH16 ys → AllByRecursion IsH16 (xs ++ ys)
all-append [] ys a b = b
all-append (x ∷ xs) ys a b = (a.0, all-append xs ys a.1 b)

all_parts : (xs ys : List Text) → AllByRecursion IsH16 (xs ++ ys) → AllByRecursion IsH16 xs × AllByRecursion IsH16 ys
all_parts [] ys a = (tt, a)
all_parts (x ∷ xs) ys a = let rest = all_parts xs ys a.1 in ((a.0, rest.0), rest.1)

-- ---- groups with a colon after each

join-cons : (p : Text) (ps : List Text) (x : Text) (xs : List Text) → join_with_byte 58 (p ∷ (ps ++ x ∷ xs)) ≡ p ++ 58 ∷ join_with_byte 58 (ps ++ x ∷ xs)
join-cons p [] x xs = refl
join-cons p (q ∷ ps) x xs = refl

-- the groups, and what they are joined with what follows
abbrev Groups : Text → ℕ → Type 0
Groups text count =
    (ps : List Text) × AllByRecursion IsH16 ps × (length ps ≡ count)
    × ((x : Text) (xs : List Text) → join_with_byte 58 (ps ++ x ∷ xs) ≡ text ++ join_with_byte 58 (x ∷ xs))

colons_there : (pieces : List Text) → AllByRecursion IsH16Colon pieces → Groups (concat pieces) (length pieces)
colons_there [] all = ([], tt, refl, λ x xs. refl)
colons_there (p ∷ pieces) all =
    let h = all.0 in
    let rest = colons_there pieces all.1 in (
      h.0 ∷ rest.0,
      (h.2, rest.1),
      ap suc rest.2,
      λ x xs.
          join-cons h.0 rest.0 x xs ∙ ap (λ t. h.0 ++ 58 ∷ t) (rest.3 x xs) ∙ sym (append_assoc h.0 (58 ∷ []) (concat pieces ++ join_with_byte 58 (x ∷ xs)))
          ∙ ap (λ t. (h.0 ++ t) ++ (concat pieces ++ join_with_byte 58 (x ∷ xs))) (sym h.3) ∙ ap (λ t. t ++ (concat pieces ++ join_with_byte 58 (x ∷ xs))) h.4
          ∙ sym (append_assoc p (concat pieces) (join_with_byte 58 (x ∷ xs))),
    )

colons_back : (ps : List Text) → AllByRecursion IsH16 ps → (pieces : List Text) × AllByRecursion IsH16Colon pieces × (length pieces ≡ length ps)
    × ((x : Text) (xs : List Text) → concat pieces ++ join_with_byte 58 (x ∷ xs) ≡ join_with_byte 58 (ps ++ x ∷ xs))
colons_back [] all = ([], tt, refl, λ x xs. refl)
colons_back (p ∷ ps) all =
    let rest = colons_back ps all.1 in (
      (p ++ 58 ∷ []) ∷ rest.0,
      ((p, 58 ∷ [], all.0, refl, refl), rest.1),
      ap suc rest.2,
      λ x xs.
          append_assoc (p ++ 58 ∷ []) (concat rest.0) (join_with_byte 58 (x ∷ xs)) ∙ append_assoc p (58 ∷ []) (concat rest.0 ++ join_with_byte 58 (x ∷ xs))
          ∙ ap (λ t. p ++ 58 ∷ t) (rest.3 x xs) ∙ sym (join-cons p ps x xs),
    )

-- ---- what stands after `::`, or all of it

-- this number of last groups
abbrev pub LastGroups : ℕ → Rule
LastGroups count text = (groups : List ℕ) × AreLastGroups text groups × (length groups ≡ count)

-- groups with a colon after each, then the last 32 bits
abbrev GroupsThenLast : ℕ → Rule
GroupsThenLast count = Exactly count IsH16Colon ⨾ IsLs32

last_there : (count : ℕ) (text : Text) → GroupsThenLast count text → LastGroups (count + 2) text
unfolding IsLs32
last_there count text z =
    let front = z.2 in
    let g = colons_there front.0 front.1 in
    let len : length g.0 ≡ count = g.2 ∙ omega (arith, front.2, front.3) in
    let joined = λ (x : Text) (xs : List Text) (e : join_with_byte 58 (x ∷ xs) ≡ z.1). sym (g.3 x xs ∙ (λ i. front.4 i ++ e i) ∙ z.4) in
    elim z.3 [
      | inl two ↦
          let pieces = g.0 ++ two.0 ∷ two.3.1 ∷ [] in
          let all = all-append g.0 (two.0 ∷ two.3.1 ∷ []) g.1 (two.2, (two.3.3, tt)) in (
            map (digits_value 16) pieces,
            inl (pieces, groups_there pieces all, joined two.0 (two.3.1 ∷ []) ((λ i. two.0 ++ (sym two.3.2 i ++ two.3.1)) ∙ ap (λ t. two.0 ++ t) two.3.4 ∙ two.4)),
            length-map pieces (digits_value 16) ∙ length-append g.0 (two.0 ∷ two.3.1 ∷ []) ∙ ap (λ n. n + 2) len,
          )
      | inr address ↦
          let v = ipv4_number z.1 address in
          let values = map (digits_value 16) g.0 in (
            values ++ v.0 / 65536 ∷ v.0 % 65536 ∷ [],
            inr (record { pieces = g.0; front = values; last = z.1; n = v.0; groups_before = groups_there g.0 g.1; ipv4 = v.1; spelled = joined z.1 [] refl; value = refl }),
            length-append values (v.0 / 65536 ∷ v.0 % 65536 ∷ []) ∙ ap (λ n. n + 2) (length-map g.0 (digits_value 16) ∙ len),
          )
    ]

-- the last two of a list, or the last one
last_two : (count : ℕ) (pieces : List Text) → length pieces ≡ count + 2 → (ps : List Text) × (a b : Text) × (pieces ≡ ps ++ a ∷ b ∷ []) × (length ps ≡ count)
last_two count [] e = absurd (omega (arith, e))
last_two count (a ∷ []) e = absurd (omega (arith, e))
last_two count (a ∷ b ∷ []) e = ([], a, b, refl, omega (arith, e))
last_two zero (a ∷ b ∷ c ∷ pieces) e = absurd (omega (arith, e))
last_two (suc count) (a ∷ b ∷ c ∷ pieces) e =
    let rest = last_two count (b ∷ c ∷ pieces) (omega (arith, e)) in
    (a ∷ rest.0, rest.1, rest.2, ap (λ ps. a ∷ ps) rest.3, ap suc rest.4)

last_one : (p : Text) (pieces : List Text) → (ps : List Text) × (a : Text) × (p ∷ pieces ≡ ps ++ a ∷ []) × (length ps ≡ length pieces)
last_one p [] = ([], p, refl, refl)
last_one p (q ∷ pieces) = let rest = last_one q pieces in (p ∷ rest.0, rest.1, ap (λ ps. p ∷ ps) rest.2, ap suc rest.3)

last_back : (count : ℕ) (text : Text) (groups : List ℕ) → AreLastGroups text groups → length groups ≡ count + 2 → GroupsThenLast count text
unfolding IsLs32
last_back count text groups (inl z) e =
    let all = groups_back z.0 groups z.1 in
    let parts = last_two count z.0 (all.1 ∙ e) in
    let a = parts.1 in
    let b = parts.2 in
    let each = all_parts parts.0 (a ∷ b ∷ []) (subst (AllByRecursion IsH16) parts.3 all.0) in
    let front = colons_back parts.0 each.0 in (
      concat front.0,
      a ++ 58 ∷ b,
      (front.0, front.1, omega (arith, front.2, parts.4), omega (arith, front.2, parts.4), refl),
      inl (a, 58 ∷ b, each.1.0, (58 ∷ [], b, refl, each.1.1.0, refl), refl),
      front.3 a (b ∷ []) ∙ ap (join_with_byte 58) (sym parts.3) ∙ sym z.2,
    )
last_back count text groups (inr z) e =
    let all = groups_back z.pieces z.front z.groups_before in
    let front = colons_back z.pieces all.0 in
    let len : length z.front + 2 ≡ count + 2 = sym (length-append z.front (z.n / 65536 ∷ z.n % 65536 ∷ [])) ∙ ap length (sym z.value) ∙ e in (
      concat front.0,
      z.last,
      (front.0, front.1, omega (arith, front.2, all.1, len), omega (arith, front.2, all.1, len), refl),
      inr (ipv4_in_rule z.last z.n z.ipv4),
      front.3 z.last [] ∙ sym z.spelled,
    )

one_there : (text : Text) → IsH16 text → LastGroups 1 text
one_there text h = (digits_value 16 text ∷ [], inl (text ∷ [], (group_there text h, tt), refl), refl)

one_back : (text : Text) (n : ℕ) → AreLastGroups text (n ∷ []) → IsH16 text
one_back text n (inl ([], z, e)) = absurd z
one_back text n (inl (p ∷ [], z, e)) = subst IsH16 (sym e) (group_back p n z.0)
one_back text n (inl (p ∷ q ∷ pieces, z, e)) = absurd z.1
one_back text n (inr z) = absurd (two z.front (ap length z.value))
  where
    two : (front : List ℕ) → 1 ≡ length (front ++ z.n / 65536 ∷ z.n % 65536 ∷ []) → ⊥
    two front e = omega (arith, e, length-append front (z.n / 65536 ∷ z.n % 65536 ∷ []))

none_back : (text : Text) → AreLastGroups text [] → text ≡ []
none_back text (inl ([], z, e)) = e
none_back text (inl (p ∷ pieces, z, e)) = absurd z
none_back text (inr z) = grind (arith, common_steps)

-- ---- what stands before `::`

-- at most this number of groups
abbrev FirstGroups : ℕ → Rule
FirstGroups most text = (groups : List ℕ) × AreGroups text groups × (length groups ≤ most)

-- `[ *<most>( h16 ":" ) h16 ]`
abbrev UpTo : ℕ → Rule
UpTo most = Optional (AtMost most IsH16Colon ⨾ IsH16)

first_there : (most : ℕ) (text : Text) → UpTo most text → FirstGroups (most + 1) text
first_there most text (inl e) = ([], ([], tt, e), omega arith)
first_there most text (inr z) =
    let front = z.2 in
    let g = colons_there front.0 front.1 in
    let pieces = g.0 ++ z.1 ∷ [] in
    let len : length (map (digits_value 16) pieces) ≡ length g.0 + 1 = length-map pieces (digits_value 16) ∙ length-append g.0 (z.1 ∷ []) in (
      map (digits_value 16) pieces,
      (pieces, groups_there pieces (all-append g.0 (z.1 ∷ []) g.1 (z.3, tt)), sym (g.3 z.1 [] ∙ ap (λ t. t ++ z.1) front.4 ∙ z.4)),
      omega (arith, len, g.2, front.3),
    )

first_back : (most : ℕ) (text : Text) (groups : List ℕ) → AreGroups text groups → length groups ≤ most + 1 → UpTo most text
first_back most text groups z h = by z.0 (groups_back z.0 groups z.1) z.2
  where
    by : (pieces : List Text) → AllByRecursion IsH16 pieces × (length pieces ≡ length groups) → text ≡ join_with_byte 58 pieces → UpTo most text
    by [] all e = inl e
    by (p ∷ pieces) all e =
        let parts = last_one p pieces in
        let a = parts.1 in
        let each = all_parts parts.0 (a ∷ []) (subst (AllByRecursion IsH16) parts.2 all.0) in
        let front = colons_back parts.0 each.0 in
        inr (
          concat front.0,
          a,
          (front.0, front.1, omega arith, omega (arith, h, all.1, front.2, parts.3), refl),
          each.1.0,
          front.3 a [] ∙ ap (join_with_byte 58) (sym parts.2) ∙ sym e,
        )

-- ---- the nine alternatives

-- a text around `::`
short : (first last : ℕ) → first + last ≤ 7 → (text before marks after : Text) → marks ≡ codes "::" → FirstGroups first before → LastGroups last after
    → before ++ (marks ++ after) ≡ text → (n : ℕ) × IsIpv6 text n
short first last fit text before marks after m f l e =
    let groups = filled_groups f.0 l.0 in (
      number_of 65536 groups,
      (
        groups,
        inr (record {
          before = before;
          after = after;
          left = f.0;
          right = l.0;
          left_groups = f.1;
          right_groups = l.1;
          few = omega (arith, f.2, l.2);
          spelled = sym e ∙ ap (λ c. before ++ (c ++ after)) m ∙ sym (append_assoc before (codes "::") after);
          value = refl;
        }),
        refl,
      ),
    )

no_groups : FirstGroups 0 []
no_groups = ([], ([], tt, refl), omega arith)

up_to_one : (text : Text) → Optional IsH16 text → FirstGroups 1 text
up_to_one text (inl e) = ([], ([], tt, e), omega arith)
up_to_one text (inr h) = (digits_value 16 text ∷ [], (text ∷ [], (group_there text h, tt), refl), omega arith)

-- one group before the last 32 bits, or none
exactly_one : (text : Text) → (IsH16Colon ⨾ IsLs32) text → GroupsThenLast 1 text
exactly_one text z = (z.0, z.1, (z.0 ∷ [], (z.2, tt), omega arith, omega arith, append-nil z.0), z.3, z.4)

exactly_none : (text : Text) → IsLs32 text → GroupsThenLast 0 text
exactly_none text h = ([], text, ([], tt, omega arith, omega arith, refl), h, refl)

pub ipv6_number : (text : Text) → IsIpv6Address text → (n : ℕ) × IsIpv6 text n
unfolding IsIpv6Address
ipv6_number text (inl z) = let l = last_there 6 text z in (number_of 65536 l.0, (l.0, inl (l.1, l.2), refl))
ipv6_number text (inr (inl z)) = short 0 7 (omega arith) text [] z.0 z.1 z.2 no_groups (last_there 5 z.1 z.3) z.4
ipv6_number text (inr (inr (inl z))) =
    short 1 6 (omega arith) text z.0 z.3.0 z.3.1 z.3.2 (up_to_one z.0 z.2) (last_there 4 z.3.1 z.3.3) (ap (λ t. z.0 ++ t) z.3.4 ∙ z.4)
ipv6_number text (inr (inr (inr (inl z)))) =
    short 2 5 (omega arith) text z.0 z.3.0 z.3.1 z.3.2 (first_there 1 z.0 z.2) (last_there 3 z.3.1 z.3.3) (ap (λ t. z.0 ++ t) z.3.4 ∙ z.4)
ipv6_number text (inr (inr (inr (inr (inl z))))) =
    short 3 4 (omega arith) text z.0 z.3.0 z.3.1 z.3.2 (first_there 2 z.0 z.2) (last_there 2 z.3.1 z.3.3) (ap (λ t. z.0 ++ t) z.3.4 ∙ z.4)
ipv6_number text (inr (inr (inr (inr (inr (inl z)))))) =
    short 4 3 (omega arith) text z.0 z.3.0 z.3.1 z.3.2 (first_there 3 z.0 z.2) (last_there 1 z.3.1 (exactly_one z.3.1 z.3.3)) (ap (λ t. z.0 ++ t) z.3.4 ∙ z.4)
ipv6_number text (inr (inr (inr (inr (inr (inr (inl z))))))) =
    short 5 2 (omega arith) text z.0 z.3.0 z.3.1 z.3.2 (first_there 4 z.0 z.2) (last_there 0 z.3.1 (exactly_none z.3.1 z.3.3)) (ap (λ t. z.0 ++ t) z.3.4 ∙ z.4)
ipv6_number text (inr (inr (inr (inr (inr (inr (inr (inl z)))))))) =
    short 6 1 (omega arith) text z.0 z.3.0 z.3.1 z.3.2 (first_there 5 z.0 z.2) (one_there z.3.1 z.3.3) (ap (λ t. z.0 ++ t) z.3.4 ∙ z.4)
ipv6_number text (inr (inr (inr (inr (inr (inr (inr (inr z)))))))) =
    short 7 0 (omega arith) text z.0 z.1 [] z.3 (first_there 6 z.0 z.2) ([], inl ([], tt, refl), refl) (ap (λ t. z.0 ++ t) (append-nil z.1) ∙ z.4)

-- and back
one_exactly : (text : Text) → GroupsThenLast 1 text → (IsH16Colon ⨾ IsLs32) text
one_exactly text z = by z.2.0 z.2.1 z.2.2 z.2.3 z.2.4
  where
    by : (pieces : List Text) → AllByRecursion IsH16Colon pieces → 1 ≤ length pieces → length pieces ≤ 1 → concat pieces ≡ z.0 → (IsH16Colon ⨾ IsLs32) text
    by [] all low high e = absurd (omega arith)
    by (p ∷ []) all low high e = (p, z.1, all.0, z.3, ap (λ t. t ++ z.1) (sym (append-nil p) ∙ e) ∙ z.4)
    by (p ∷ q ∷ pieces) all low high e = absurd (omega arith)

none_exactly : (text : Text) → GroupsThenLast 0 text → IsLs32 text
none_exactly text z = grind (arith, common_steps)

one_at_most : (text : Text) (groups : List ℕ) → AreGroups text groups → length groups ≤ 1 → Optional IsH16 text
one_at_most text groups z h = by z.0 (groups_back z.0 groups z.1) z.2
  where
    by : (pieces : List Text) → AllByRecursion IsH16 pieces × (length pieces ≡ length groups) → text ≡ join_with_byte 58 pieces → Optional IsH16 text
    by [] all e = inl e
    by (p ∷ []) all e = inr (subst IsH16 (sym e) all.0.0)
    by (p ∷ q ∷ pieces) all e = absurd (omega (arith, all.1))

none_at_most : (text : Text) (groups : List ℕ) → AreGroups text groups → length groups ≤ 0 → text ≡ []
none_at_most text groups z h = grind (arith, common_steps, groups_back)

short_in_rule : (text before after : Text) (left right : List ℕ) → AreGroups before left → AreLastGroups after right → length left + length right ≤ 7
    → text ≡ before ++ (codes "::" ++ after) → IsIpv6Address text
unfolding IsIpv6Address
short_in_rule text before after left [] f l few e =
    inr (inr (inr (inr (inr (inr (inr (inr (before, codes "::", first_back 6 before left f (omega arith), refl, ap (λ t. before ++ (codes "::" ++ t)) (sym (none_back after l)) ∙ sym e))))))))
short_in_rule text before after left (a ∷ []) f l few e =
    inr (inr (inr (inr (inr (inr (inr (inl (before, codes "::" ++ after, first_back 5 before left f (omega arith), (codes "::", after, refl, one_back after a l, refl), sym e))))))))
short_in_rule text before after left (a ∷ b ∷ []) f l few e =
    inr (inr (inr (inr (inr (inr (inl (before, codes "::" ++ after, first_back 4 before left f (omega arith), (codes "::", after, refl, none_exactly after (last_back 0 after (a ∷ b ∷ []) l refl), refl), sym e)))))))
short_in_rule text before after left (a ∷ b ∷ c ∷ []) f l few e =
    inr (inr (inr (inr (inr (inl (before, codes "::" ++ after, first_back 3 before left f (omega arith), (codes "::", after, refl, one_exactly after (last_back 1 after (a ∷ b ∷ c ∷ []) l refl), refl), sym e))))))
short_in_rule text before after left (a ∷ b ∷ c ∷ d ∷ []) f l few e =
    inr (inr (inr (inr (inl (before, codes "::" ++ after, first_back 2 before left f (omega arith), (codes "::", after, refl, last_back 2 after (a ∷ b ∷ c ∷ d ∷ []) l refl, refl), sym e)))))
short_in_rule text before after left (a ∷ b ∷ c ∷ d ∷ g ∷ []) f l few e =
    inr (inr (inr (inl (before, codes "::" ++ after, first_back 1 before left f (omega arith), (codes "::", after, refl, last_back 3 after (a ∷ b ∷ c ∷ d ∷ g ∷ []) l refl, refl), sym e))))
short_in_rule text before after left (a ∷ b ∷ c ∷ d ∷ g ∷ h ∷ []) f l few e =
    inr (inr (inl (before, codes "::" ++ after, one_at_most before left f (omega arith), (codes "::", after, refl, last_back 4 after (a ∷ b ∷ c ∷ d ∷ g ∷ h ∷ []) l refl, refl), sym e)))
short_in_rule text before after left (a ∷ b ∷ c ∷ d ∷ g ∷ h ∷ k ∷ []) f l few e =
    inr (inl (codes "::", after, refl, last_back 5 after (a ∷ b ∷ c ∷ d ∷ g ∷ h ∷ k ∷ []) l refl, ap (λ t. t ++ (codes "::" ++ after)) (sym (none_at_most before left f (omega arith))) ∙ sym e))
short_in_rule text before after left (a ∷ b ∷ c ∷ d ∷ g ∷ h ∷ k ∷ m ∷ right) f l few e = absurd (omega arith)

pub ipv6_in_rule : (text : Text) (n : ℕ) → IsIpv6 text n → IsIpv6Address text
unfolding IsIpv6Address
ipv6_in_rule text n (groups, inl full, e) = inl (last_back 6 text groups full.0 full.1)
ipv6_in_rule text n (groups, inr z, e) = short_in_rule text z.before z.after z.left z.right z.left_groups z.right_groups z.few (z.spelled ∙ append_assoc z.before (codes "::") z.after)
