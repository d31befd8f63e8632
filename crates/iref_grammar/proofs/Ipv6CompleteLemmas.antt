-- IPv6 addresses: each text of the rule has its number computed.
use Rattle.std.proofs.Common.{◌≡◌, ℕ, ◌+◌, ◌/◌, ◌%◌, ◌≤◌, Bool, true, not, cond, ◌&&◌, List, [], ◌∷◌, ◌++◌, length, map, refl, sym, ◌∙◌, ap, subst, arith, ◌⊎◌, inl, inr, ◌==◌, nat_le, codes, decimal, Option, Some, None, option_map, option_and_then, true≢false}
use Rattle.std.proofs.{lemmas.Grind.{common_steps}, lemmas.List.{append-nil}, lemmas.Bool.Decides.{nat_tests}}
use Rattle.std.proofs.lemmas.Bool.{and_from}
use Rattle.std.specs.{Option.{option_or}, List.{list_all, AllZip, join_with_byte}, Char.{is_ascii_hexdigit}}
use Rattle.iref_grammar.specs.{Rules.{Text}, Texts.{is_empty}}
use Rattle.iref_grammar.specs.IpAddresses.{IsIpv4, IsGroup, AreGroups, AreLastGroups, IsShortIpv6, IsFullIpv6, IsIpv6, number_of, filled_groups, all_some, group_value, last_groups_of, group_pieces, around_double_colon, eight_groups, joined_groups, short_ipv6_groups, ipv6_groups, ipv6_value}
use Rattle.iref_grammar.proofs.TextLemmas.{lacks, pieces_at-join, first_of_both, second_of_both, list_all-snoc}
use Rattle.iref_grammar.proofs.{LackLemmas.{all_lacks}, HostLemmas.{join_lacks, decimal_lacks}}
use Rattle.iref_grammar.proofs.Ipv4Lemmas.{ipv4_value-complete}

-- ---- a group

groups_complete : (pieces : List Text) (groups : List ℕ) → AllZip IsGroup pieces groups → all_some (map group_value pieces) ≡ Some groups
groups_complete [] [] z = refl
groups_complete [] (n ∷ ns) z = absurd z
groups_complete (p ∷ pieces) [] z = absurd z
groups_complete (p ∷ pieces) (n ∷ ns) z = grind (arith, groups_complete pieces ns z.1)

-- ---- pieces that are not empty, with no delimiter in them

abbrev pub is_piece : ℕ → Text → Bool
is_piece mark p = not (is_empty p) && lacks mark p

group_is_piece : (p : Text) (n : ℕ) → IsGroup p n → is_piece 58 p ≡ true
group_is_piece [] n g = grind arith
group_is_piece (c ∷ cs) n g = all_lacks is_ascii_hexdigit 58 refl (c ∷ cs) g.digits

groups_are_pieces : (pieces : List Text) (groups : List ℕ) → AllZip IsGroup pieces groups → list_all (is_piece 58) pieces ≡ true
groups_are_pieces [] [] z = refl
groups_are_pieces [] (n ∷ ns) z = absurd z
groups_are_pieces (p ∷ pieces) [] z = absurd z
groups_are_pieces (p ∷ pieces) (n ∷ ns) z = and_from (is_piece 58 p) (list_all (is_piece 58) pieces) (group_is_piece p n z.0) (groups_are_pieces pieces ns z.1)

lacking : (mark : ℕ) (pieces : List Text) → list_all (is_piece mark) pieces ≡ true → list_all (lacks mark) pieces ≡ true
lacking mark [] h = refl
lacking mark (p ∷ pieces) h = grind (arith, lacking mark pieces)

-- the pieces are read back
group_pieces-join : (pieces : List Text) → list_all (is_piece 58) pieces ≡ true → group_pieces (join_with_byte 58 pieces) ≡ pieces
group_pieces-join [] h = refl
group_pieces-join ([] ∷ pieces) h = absurd (true≢false (sym h))
group_pieces-join ((c ∷ p) ∷ []) h = pieces_at-join 58 (c ∷ p) [] (lacking 58 ((c ∷ p) ∷ []) h)
group_pieces-join ((c ∷ p) ∷ q ∷ pieces) h = pieces_at-join 58 (c ∷ p) (q ∷ pieces) (lacking 58 ((c ∷ p) ∷ q ∷ pieces) h)

-- ---- an IPv4 address is no group, and is a piece

ipv4_no_group : (text : Text) (n : ℕ) → IsIpv4 text n → group_value text ≡ None
ipv4_no_group text n v = grind (arith, common_steps)

ipv4_lacks_colon : (text : Text) (n : ℕ) → IsIpv4 text n → lacks 58 text ≡ true
ipv4_lacks_colon text n v =
    let l = decimal_lacks 58 refl in
    subst (λ t. lacks 58 t ≡ true) (sym v.spelled)
    (join_lacks 58 46 refl (decimal v.a ∷ decimal v.b ∷ decimal v.c ∷ decimal v.d ∷ [])
    (and_from (lacks 58 (decimal v.a)) _ (l v.a v.in_range.0) (and_from (lacks 58 (decimal v.b)) _ (l v.b v.in_range.1) (and_from (lacks 58 (decimal v.c)) _ (l v.c v.in_range.2) (and_from (lacks 58 (decimal v.d)) true (l v.d v.in_range.3) refl)))))

ipv4_is_piece : (text : Text) (n : ℕ) → IsIpv4 text n → is_piece 58 text ≡ true
ipv4_is_piece text n v = and_from (not (is_empty text)) (lacks 58 text) (ap (λ t. not (is_empty t)) v.spelled ∙ some (decimal v.a) (join_with_byte 46 (decimal v.b ∷ decimal v.c ∷ decimal v.d ∷ []))) (ipv4_lacks_colon text n v)
  where
    some : (a rest : Text) → not (is_empty (a ++ 46 ∷ rest)) ≡ true
    some [] rest = refl
    some (c ∷ a) rest = refl

-- ---- groups, of which the last two may be an IPv4 address

last_groups-plain : (pieces : List Text) (groups : List ℕ) → AllZip IsGroup pieces groups → last_groups_of pieces ≡ Some groups
last_groups-plain [] [] z = refl
last_groups-plain [] (n ∷ ns) z = absurd z
last_groups-plain (p ∷ pieces) [] z = absurd z
last_groups-plain (p ∷ []) (n ∷ []) z = grind arith
last_groups-plain (p ∷ []) (n ∷ m ∷ ns) z = absurd z.1
last_groups-plain (p ∷ q ∷ pieces) (n ∷ ns) z = grind (arith, common_steps, last_groups-plain (q ∷ pieces) ns z.1)

last_groups-ipv4 : (pieces : List Text) (front : List ℕ) (last : Text) (n : ℕ) → AllZip IsGroup pieces front → IsIpv4 last n → last_groups_of (pieces ++ last ∷ []) ≡ Some (front ++ n / 65536 ∷ n % 65536 ∷ [])
last_groups-ipv4 [] [] last n z v = λ i. option_or (option_map (λ n. n ∷ []) (ipv4_no_group last n v i)) (option_map (λ n. n / 65536 ∷ n % 65536 ∷ []) (ipv4_value-complete last n v i))
last_groups-ipv4 [] (m ∷ ms) last n z v = absurd z
last_groups-ipv4 (p ∷ pieces) [] last n z v = absurd z
last_groups-ipv4 (p ∷ []) (m ∷ ms) last n z v = grind (arith, common_steps, last_groups-ipv4 [] ms last n z.1 v)
last_groups-ipv4 (p ∷ q ∷ pieces) (m ∷ ms) last n z v = grind (arith, common_steps, last_groups-ipv4 (q ∷ pieces) ms last n z.1 v)

-- the pieces of a text of last groups
record IsCut (text : Text) (groups : List ℕ) : Type 0 where
  pieces : List Text
  are_pieces : list_all (is_piece 58) pieces ≡ true
  spelled : text ≡ join_with_byte 58 pieces
  values : last_groups_of pieces ≡ Some groups

cut_of : (text : Text) (groups : List ℕ) → AreLastGroups text groups → IsCut text groups
cut_of text groups (inl z) = grind (arith, groups_are_pieces, last_groups-plain)
cut_of text groups (inr z) = record {
  pieces = z.pieces ++ z.last ∷ [];
  are_pieces = list_all-snoc (is_piece 58) z.pieces z.last (groups_are_pieces z.pieces z.front z.groups_before) (ipv4_is_piece z.last z.n z.ipv4);
  spelled = z.spelled;
  values = last_groups-ipv4 z.pieces z.front z.last z.n z.groups_before z.ipv4 ∙ ap (λ xs. Some xs) (sym z.value);
}

last_groups-complete : (text : Text) (groups : List ℕ) → AreLastGroups text groups → last_groups_of (group_pieces text) ≡ Some groups
last_groups-complete text groups h =
    let z = cut_of text groups h in
    ap (λ t. last_groups_of (group_pieces t)) z.spelled ∙ ap last_groups_of (group_pieces-join z.pieces z.are_pieces) ∙ z.values

left_groups-complete : (text : Text) (groups : List ℕ) → AreGroups text groups → all_some (map group_value (group_pieces text)) ≡ Some groups
left_groups-complete text groups z = grind (arith, group_pieces-join, groups_are_pieces, groups_complete)

-- ---- `::` stands nowhere in joined pieces

abbrev behind : Text → Option (Text × Text) → Option (Text × Text)
behind front o = option_map (λ p. (front ++ p.0, p.1)) o

behind-nothing : (o : Option (Text × Text)) → o ≡ behind [] o
behind-nothing None = refl
behind-nothing (Some p) = refl

around-piece : (p t : Text) → lacks 58 p ≡ true → around_double_colon (p ++ t) ≡ behind p (around_double_colon t)
around-piece [] t h = behind-nothing (around_double_colon t)
around-piece (c ∷ p) t h = grind (arith, around-piece p t)

around-join : (pieces : List Text) (t : Text) → list_all (is_piece 58) pieces ≡ true → around_double_colon (join_with_byte 58 pieces ++ t) ≡ behind (join_with_byte 58 pieces) (around_double_colon t)
around-join [] t h = behind-nothing (around_double_colon t)
around-join (p ∷ []) t h = around-piece p t (second_of_both (not (is_empty p)) (lacks 58 p) (first_of_both (is_piece 58 p) true h))
around-join (p ∷ q ∷ pieces) t h = grind (arith, common_steps, first_of_both, second_of_both, around-piece, around-join (q ∷ pieces) t)

around-none : (pieces : List Text) → list_all (is_piece 58) pieces ≡ true → around_double_colon (join_with_byte 58 pieces) ≡ None
around-none pieces h = ap around_double_colon (sym (append-nil (join_with_byte 58 pieces))) ∙ around-join pieces [] h

around-found : (pieces : List Text) (after : Text) → list_all (is_piece 58) pieces ≡ true → around_double_colon (join_with_byte 58 pieces ++ codes "::" ++ after) ≡ Some (join_with_byte 58 pieces, after)
around-found pieces after h = grind (arith, common_steps, around-join)

-- ---- the whole address

full-complete : (text : Text) (groups : List ℕ) → IsFullIpv6 text groups → ipv6_groups text ≡ Some groups
full-complete text groups h =
    let z = cut_of text groups h.0 in
    let none : around_double_colon text ≡ None = ap around_double_colon z.spelled ∙ around-none z.pieces z.are_pieces in
    let eight : (length groups == 8) ≡ true = equal (length groups) h.1 in
    (λ i. elim (none i) as (λ x. Option (List ℕ)) [ None ↦ option_and_then eight_groups (last_groups-complete text groups h.0 i) | Some parts ↦ short_ipv6_groups parts ])
    ∙ ap (λ b. cond b (Some groups) None) eight
  where
    equal : (n : ℕ) → n ≡ 8 → (n == 8) ≡ true
    equal n e = grind (arith, nat_tests)

short-complete : (text : Text) (groups : List ℕ) → IsShortIpv6 text groups → ipv6_groups text ≡ Some groups
short-complete text groups h =
    let left = h.left_groups in
    let found : around_double_colon text ≡ Some (h.before, h.after) = ap around_double_colon h.spelled
    ∙ subst (λ b. around_double_colon (b ++ codes "::" ++ h.after) ≡ Some (b, h.after)) (sym left.2) (around-found left.0 h.after (groups_are_pieces left.0 h.left left.1)) in
    let few : nat_le (length h.left + length h.right) 7 ≡ true = fits (length h.left + length h.right) h.few in
    (λ i. elim (found i) as (λ x. Option (List ℕ)) [ None ↦ option_and_then eight_groups (last_groups_of (group_pieces text)) | Some parts ↦ short_ipv6_groups parts ])
    ∙ (λ i. option_and_then (λ l. option_and_then (joined_groups l) (last_groups-complete h.after h.right h.right_groups i)) (left_groups-complete h.before h.left left i))
    ∙ ap (λ b. cond b (Some (filled_groups h.left h.right)) None) few ∙ ap (λ xs. Some xs) (sym h.value)
  where
    fits : (n : ℕ) → n ≤ 7 → nat_le n 7 ≡ true
    fits n e = grind (arith, nat_tests)

pub ipv6_value-complete : (text : Text) (n : ℕ) → IsIpv6 text n → ipv6_value text ≡ Some n
unfolding ipv6_value
ipv6_value-complete text n h = ap (option_map (number_of 65536)) (by h.1) ∙ ap (λ m. Some m) (sym h.2)
  where
    by : IsFullIpv6 text h.0 ⊎ IsShortIpv6 text h.0 → ipv6_groups text ≡ Some h.0
    by (inl full) = full-complete text h.0 full
    by (inr short) = short-complete text h.0 short
