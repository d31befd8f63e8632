-- What is read in one scan is an IPv6 address.
use Rattle.std.proofs.Common.{◌≡◌, ℕ, ◌+◌, ◌-◌, ◌/◌, ◌%◌, ◌<◌, ◌≤◌, Bool, true, false, cond, ◌&&◌, List, [], ◌∷◌, ◌++◌, length, append_assoc, length-append, refl, sym, ◌∙◌, ap, subst, arith, ◌⊎◌, ⊎_elim, inl, inr, ◌==◌, nat_lt, codes, is_some, true≢false}
use Rattle.std.proofs.{lemmas.Bool.Decides.{nat_tests}, lemmas.Bool.{eqb-true, ltb-true, and_from, and_parts, or_cases}}
use Rattle.std.proofs.{lemmas.List.{append-nil, nil_from_length}, lemmas.List.Folds.{list_all-append}}
use Rattle.std.specs.{List.{list_all, AllZip, join_with_byte}, Char.{is_ascii_hexdigit}, Str.Parse.{digits_value}}
use Rattle.iref_grammar.specs.Rules.{Text}
use Rattle.iref_grammar.specs.IpAddresses.{IsIpv4, IsGroup, AreGroups, AreLastGroups, IsShortIpv6, IsFullIpv6, number_of, filled_groups, ipv6_value}
use Rattle.iref_grammar.proofs.Ipv6CompleteLemmas.{ipv6_value-complete}
use Rattle.iref_parse.specs.Ipv6Scan.{ends_in_octets, ends_in_groups, is_after_gap, has_groups, opens_with_gap, is_scanned_ipv6}
use Rattle.iref_parse.proofs.Ipv4ScanLemmas.{is_address}

-- the digits of the group that is read
record Digits (front : Text) (count : ℕ) : Type 0 where
  hex : list_all is_ascii_hexdigit front ≡ true
  size : length front ≡ count
  short : count ≤ 4

no_digits : Digits [] 0
no_digits = record { hex = refl; size = refl; short = omega arith }

one_more : (front : Text) (count c : ℕ) → Digits front count → is_ascii_hexdigit c ≡ true → count < 4 → Digits (front ++ c ∷ []) (count + 1)
one_more front count c d h few = record {
  hex = list_all-append is_ascii_hexdigit front (c ∷ []) ∙ and_from _ _ d.hex (and_from _ _ h refl);
  size = length-append front (c ∷ []) ∙ ap (λ n. n + 1) d.size;
  short = omega (arith, few);
}

as_group : (front : Text) (count : ℕ) → Digits front count → 0 < count → IsGroup front (digits_value 16 front)
as_group front count d some = record { nonempty = omega (arith, d.size, some); short = omega (arith, d.size, d.short); digits = d.hex; value = refl }

-- the pieces are groups, or groups and an IPv4 address, which is the last two
abbrev AreGroupPieces : List Text → List ℕ → Type 0
AreGroupPieces pieces values = AllZip IsGroup pieces values ⊎ (front : List Text) × (groups : List ℕ) × (last : Text) × (n : ℕ) × AllZip IsGroup front groups × IsIpv4 last n × (pieces ≡ front ++ last ∷ []) × (values ≡ groups ++ n / 65536 ∷ n % 65536 ∷ [])

-- such pieces with `:` between, one at least
record Groups (text : Text) : Type 0 where
  first : Text
  pieces : List Text
  values : List ℕ
  groups : AreGroupPieces (first ∷ pieces) values
  spelled : text ≡ join_with_byte 58 (first ∷ pieces)

abbrev last_group : (group front : Text) (count : ℕ) → Digits front count → group ≡ front ++ [] → 0 < count → Groups group
last_group group front count d e some = record { first = front; pieces = []; values = digits_value 16 front ∷ []; groups = inl (as_group front count d some, tt); spelled = e ∙ append-nil front }

abbrev last_address : (group : Text) → ends_in_octets 3 false 0 group ≡ true → Groups group
last_address group h =
    let z = is_address group h in
    record { first = group; pieces = []; values = z.0 / 65536 ∷ z.0 % 65536 ∷ []; groups = inr ([], [], group, z.0, tt, z.1, refl, refl); spelled = refl }

more_groups : (front : Text) (pieces : List Text) (values : List ℕ) (n : ℕ) → IsGroup front n → AreGroupPieces pieces values → AreGroupPieces (front ∷ pieces) (n ∷ values)
more_groups front pieces values n g (inl z) = inl (g, z)
more_groups front pieces values n g (inr z) = inr (front ∷ z.0, n ∷ z.1, z.2, z.3, (g, z.4), z.5, ap (λ ps. front ∷ ps) z.6, ap (λ ns. n ∷ ns) z.7)

abbrev then_groups : (group front : Text) (count : ℕ) → Digits front count → 0 < count → (c : ℕ) (rest : Text) → group ≡ front ++ c ∷ rest → c ≡ 58 → Groups rest → Groups group
then_groups group front count d some c rest f e z = record {
  first = front;
  pieces = z.first ∷ z.pieces;
  values = digits_value 16 front ∷ z.values;
  groups = more_groups front (z.first ∷ z.pieces) z.values (digits_value 16 front) (as_group front count d some) z.groups;
  spelled = f ∙ (λ i. front ++ e i ∷ z.spelled i);
}

last_groups : (text : Text) (z : Groups text) → AreLastGroups text z.values
last_groups text z = by z.groups
  where
    by : AreGroupPieces (z.first ∷ z.pieces) z.values → AreLastGroups text z.values
    by (inl g) = inl (z.first ∷ z.pieces, g, z.spelled)
    by (inr g) = inr (record { pieces = g.0; front = g.1; last = g.2; n = g.3; groups_before = g.4; ipv4 = g.5; spelled = z.spelled ∙ ap (join_with_byte 58) g.6; value = g.7 })

-- at a digit, and at another byte
at_digit : (digit : Bool) (count : ℕ) (more other : Bool) → digit ≡ true → cond digit (nat_lt count 4 && more) other ≡ true → (count < 4) × (more ≡ true)
at_digit digit count more other e h = let both = and_parts (nat_lt count 4) more (ap (λ b. cond b (nat_lt count 4 && more) other) (sym e) ∙ h) in (ltb-true count 4 both.0, both.1)

at_other : (digit more other : Bool) → digit ≡ false → cond digit more other ≡ true → other ≡ true
at_other digit more other e h = ap (λ b. cond b more other) (sym e) ∙ h

abbrev FewGroups : ℕ → Text → Type 0
FewGroups room text = (z : Groups text) × (length z.values ≤ room + 1)

groups_to_end : (room count : ℕ) (group front text : Text) → Digits front count → group ≡ front ++ text → ends_in_groups room group count text ≡ true → FewGroups room group
groups_to_end room count group front [] d s h = (last_group group front count d s (ltb-true 0 count h), omega arith)
groups_to_end room count group front (c ∷ cs) d s h = by (λ r n g f k t e. groups_to_end r n g f cs k t e) (is_ascii_hexdigit c) refl
  where
    Rest : Type 0
    Rest = (r n : ℕ) (g f : Text) → Digits f n → g ≡ f ++ cs → ends_in_groups r g n cs ≡ true → FewGroups r g

    mark : Rest → (b : Bool) → (c == 58) ≡ b → cond b (nat_lt 0 count && (nat_lt 0 room && ends_in_groups (room - 1) cs 0 cs)) (c == 46 && (nat_lt 0 room && ends_in_octets 3 false 0 group)) ≡ true → FewGroups room group
    mark rest true e k =
        let digits = and_parts (nat_lt 0 count) (nat_lt 0 room && ends_in_groups (room - 1) cs 0 cs) k in
        let more = and_parts (nat_lt 0 room) (ends_in_groups (room - 1) cs 0 cs) digits.1 in
        let z = rest (room - 1) 0 cs [] no_digits refl more.1 in
        (then_groups group front count d (ltb-true 0 count digits.0) c cs s (eqb-true c 58 e) z.0, omega (arith, z.1, ltb-true 0 room more.0))
    mark rest false e k =
        let more = and_parts (nat_lt 0 room) (ends_in_octets 3 false 0 group) ((and_parts (c == 46) (nat_lt 0 room && ends_in_octets 3 false 0 group) k).1) in
        (last_address group more.1, omega (arith, ltb-true 0 room more.0))

    by : Rest → (b : Bool) → is_ascii_hexdigit c ≡ b → FewGroups room group
    by rest true e =
        let at = at_digit _ count _ _ e h in
        rest room (count + 1) group (front ++ c ∷ []) (one_more front count c d e at.0) (s ∙ sym (append_assoc front (c ∷ []) cs)) at.1
    by rest false e = mark rest (c == 58) refl (at_other _ _ _ e h)

abbrev AfterGap : ℕ → Text → Type 0
AfterGap room text = (right : List ℕ) × AreLastGroups text right × (length right ≤ room)

after_gap : (room : ℕ) (text : Text) → is_after_gap room text ≡ true → AfterGap room text
after_gap room [] h = ([], inl ([], tt, refl), omega arith)
after_gap room (c ∷ cs) h =
    let more = and_parts (nat_lt 0 room) (ends_in_groups (room - 1) (c ∷ cs) 0 (c ∷ cs)) h in
    let some = ltb-true 0 room more.0 in
    let z = groups_to_end (room - 1) 0 (c ∷ cs) [] (c ∷ cs) no_digits refl more.1 in
    (z.0.values, last_groups (c ∷ cs) z.0, omega (arith, z.1, some))

-- groups that each stand before a `:`
abbrev closed : List Text → Text
closed [] = []
closed (p ∷ pieces) = p ++ 58 ∷ closed pieces

closed-join : (p : Text) (pieces : List Text) → closed (p ∷ pieces) ≡ join_with_byte 58 (p ∷ pieces) ++ 58 ∷ []
closed-join p [] = refl
closed-join p (q ∷ pieces) = ap (λ t. p ++ 58 ∷ t) (closed-join q pieces) ∙ sym (append_assoc p (58 ∷ join_with_byte 58 (q ∷ pieces)) (58 ∷ []))

-- what is left from the group that is read on: groups that fill the room, or `::` after some
record Gap (room : ℕ) (text : Text) : Type 0 where
  pieces : List Text
  left : List ℕ
  groups : AllZip IsGroup pieces left
  after : Text
  right : List ℕ
  right_groups : AreLastGroups after right
  few : length left + length right ≤ room
  begun : room < 7 + length left
  spelled : text ≡ closed pieces ++ 58 ∷ after

abbrev Filled : ℕ → Text → Type 0
Filled room text = (z : Groups text) × (length z.values ≡ room + 1)

abbrev at_colon : ℕ → ℕ → Text → Bool
at_colon room count cs = cond (nat_lt 0 count) (nat_lt 0 room && has_groups (room - 1) cs 0 cs) (nat_lt room 7 && is_after_gap room cs)

begins_gap : (room : ℕ) (group front : Text) → Digits front 0 → (c : ℕ) (cs : Text) → group ≡ front ++ c ∷ cs → c ≡ 58 → room < 7 → AfterGap room cs → Gap room group
begins_gap room group front d c cs s e some z = record {
  pieces = [];
  left = [];
  groups = tt;
  after = cs;
  right = z.0;
  right_groups = z.1;
  few = omega (arith, z.2);
  begun = omega (arith, some);
  spelled = s ∙ (λ i. nil_from_length front d.size i ++ e i ∷ cs);
}

then_gap : (room count : ℕ) (group front : Text) → Digits front count → 0 < count → 0 < room → (c : ℕ) (cs : Text) → group ≡ front ++ c ∷ cs → c ≡ 58 → Gap (room - 1) cs → Gap room group
then_gap room count group front d some more c cs s e g = record {
  pieces = front ∷ g.pieces;
  left = digits_value 16 front ∷ g.left;
  groups = (as_group front count d some, g.groups);
  after = g.after;
  right = g.right;
  right_groups = g.right_groups;
  few = omega (arith, g.few, more);
  begun = omega (arith, g.begun);
  spelled = s ∙ (λ i. front ++ e i ∷ g.spelled i) ∙ sym (append_assoc front (58 ∷ closed g.pieces) (58 ∷ g.after));
}

abbrev Read : ℕ → Text → Type 0
Read room text = Filled room text ⊎ Gap room text

groups_read : (room count : ℕ) (group front text : Text) → Digits front count → group ≡ front ++ text → has_groups room group count text ≡ true → Read room group
groups_read room count group front [] d s h =
    let both = and_parts (room == 0) (nat_lt 0 count) h in
    inl (last_group group front count d s (ltb-true 0 count both.1), omega (arith, eqb-true room 0 both.0))
groups_read room count group front (c ∷ cs) d s h = by (λ r n g f k t e. groups_read r n g f cs k t e) (is_ascii_hexdigit c) refl
  where
    Rest : Type 0
    Rest = (r n : ℕ) (g f : Text) → Digits f n → g ≡ f ++ cs → has_groups r g n cs ≡ true → Read r g

    colon : Rest → c ≡ 58 → (b : Bool) → nat_lt 0 count ≡ b → cond b (nat_lt 0 room && has_groups (room - 1) cs 0 cs) (nat_lt room 7 && is_after_gap room cs) ≡ true → Read room group
    colon rest e true some k =
        let more = and_parts (nat_lt 0 room) (has_groups (room - 1) cs 0 cs) k in
        elim (rest (room - 1) 0 cs [] no_digits refl more.1) [
          | inl z ↦ inl (then_groups group front count d (ltb-true 0 count some) c cs s e z.0, omega (arith, z.1, ltb-true 0 room more.0))
          | inr g ↦ inr (then_gap room count group front d (ltb-true 0 count some) (ltb-true 0 room more.0) c cs s e g)
        ]
    colon rest e false none k =
        let more = and_parts (nat_lt room 7) (is_after_gap room cs) k in
        let zero_digits : count ≡ 0 = grind (arith, nat_tests) in
        inr (begins_gap room group front (subst (Digits front) zero_digits d) c cs s e (ltb-true room 7 more.0) (after_gap room cs more.1))

    mark : Rest → (b : Bool) → (c == 58) ≡ b → cond b (at_colon room count cs) (c == 46 && (room == 1 && ends_in_octets 3 false 0 group)) ≡ true → Read room group
    mark rest true e k = colon rest (eqb-true c 58 e) (nat_lt 0 count) refl k
    mark rest false e k =
        let more = and_parts (room == 1) (ends_in_octets 3 false 0 group) ((and_parts (c == 46) (room == 1 && ends_in_octets 3 false 0 group) k).1) in
        inl (last_address group more.1, omega (arith, eqb-true room 1 more.0))

    by : Rest → (b : Bool) → is_ascii_hexdigit c ≡ b → Read room group
    by rest true e =
        let at = at_digit _ count _ _ e h in
        rest room (count + 1) group (front ++ c ∷ []) (one_more front count c d e at.0) (s ∙ sym (append_assoc front (c ∷ []) cs)) at.1
    by rest false e = mark rest (c == 58) refl (at_other _ _ _ e h)

-- ---- the address

address : (text : Text) (groups : List ℕ) → IsFullIpv6 text groups ⊎ IsShortIpv6 text groups → is_some (ipv6_value text) ≡ true
address text groups z = ap is_some (ipv6_value-complete text (number_of 65536 groups) (groups, z, refl))

short_address : (text before after : Text) (left right : List ℕ) → AreGroups before left → AreLastGroups after right → length left + length right ≤ 7 → text ≡ before ++ codes "::" ++ after → is_some (ipv6_value text) ≡ true
short_address text before after left right g k few e =
    address text (filled_groups left right)
    (inr (record { before = before; after = after; left = left; right = right; left_groups = g; right_groups = k; few = few; spelled = e; value = refl }))

groups_first : (text : Text) → has_groups 7 text 0 text ≡ true → is_some (ipv6_value text) ≡ true
groups_first text h = elim (groups_read 7 0 text [] text no_digits refl h) [
  | inl z ↦ address text z.0.values (inl (last_groups text z.0, z.1))
  | inr g ↦ by g.pieces g.left g.groups g.after g.right g.right_groups g.few g.begun g.spelled
]
  where
    by : (pieces : List Text) (left : List ℕ) → AllZip IsGroup pieces left → (after : Text) (right : List ℕ) → AreLastGroups after right → length left + length right ≤ 7 → 7 < 7 + length left → text ≡ closed pieces ++ 58 ∷ after
        → is_some (ipv6_value text) ≡ true
    by [] [] z after right k few some e = absurd (omega (arith, some))
    by [] (n ∷ ns) z after right k few some e = absurd z
    by (p ∷ pieces) left z after right k few some e =
        let before = join_with_byte 58 (p ∷ pieces) in
        short_address text before after left right (p ∷ pieces, z, refl) k few
        (e ∙ ap (λ t. t ++ 58 ∷ after) (closed-join p pieces) ∙ append_assoc before (58 ∷ []) (58 ∷ after) ∙ sym (append_assoc before (codes "::") after))

opened : (text : Text) → opens_with_gap text ≡ true → is_some (ipv6_value text) ≡ true
opened [] h = absurd (true≢false (sym h))
opened (a ∷ []) h = absurd (true≢false (sym h))
opened (a ∷ b ∷ cs) h =
    let first = and_parts (a == 58) (b == 58 && is_after_gap 7 cs) h in
    let second = and_parts (b == 58) (is_after_gap 7 cs) first.1 in
    let z = after_gap 7 cs second.1 in
    short_address (a ∷ b ∷ cs) [] cs [] z.0 ([], tt, refl) z.1 (omega (arith, z.2)) (λ i. eqb-true a 58 first.0 i ∷ eqb-true b 58 second.0 i ∷ cs)

pub scanned_address : (text : Text) → is_scanned_ipv6 text ≡ true → is_some (ipv6_value text) ≡ true
scanned_address text h = ⊎_elim (groups_first text) (opened text) (or_cases (has_groups 7 text 0 text) (opens_with_gap text) h)
