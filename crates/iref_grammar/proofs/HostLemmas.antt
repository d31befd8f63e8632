-- What a host that is taken lacks.
use Rattle.std.proofs.Common.{◌≡◌, ℕ, ◌<◌, true, false, not, ◌&&◌, ◌||◌, List, [], ◌∷◌, ◌++◌, refl, sym, ◌∙◌, ap, subst, arith, ◌⊎◌, inl, inr, lit<, ◌==◌, decimal, codes, Option, Some, None, is_some, lt_trans, true≢false}
use Rattle.std.proofs.{lemmas.Grind.{common_steps}, lemmas.Fmt.{decimal_is_IsNumeral}, lemmas.Bool.Decides.{eqb_tells}}
use Rattle.std.proofs.lemmas.Bool.{and_from}
use Rattle.std.specs.{List.{list_all, AllZip, join_with_byte}, Char.{char_set_contains, digit_value, is_ascii_hexdigit}}
use Rattle.std.specs.Str.Parse.{AllDigits}
use Rattle.iref_grammar.specs.{Rules.{Text}, Grammar.{full_stop, is_future_char}}
use Rattle.iref_grammar.specs.Texts.{before, after, is_empty, then_part}
use Rattle.iref_grammar.specs.IpAddresses.{IsIpv4, IsGroup, AreGroups, AreLastGroups, IsFullIpv6, IsShortIpv6, ipv6_value}
use Rattle.iref_grammar.specs.Tests.{is_ip_address, is_ipvfuture, is_future_version, is_future_address}
use Rattle.iref_grammar.proofs.TextLemmas.{lacks, first_of_both, second_of_both, list_all-snoc}
use Rattle.iref_grammar.proofs.CutLemmas.{cut, before-no, before-yes}
use Rattle.iref_grammar.proofs.{LackLemmas.{lacks_more, lacks-append, all_lacks}, Ipv6Lemmas.{ipv6_value-sound}}

-- a delimiter that no IP address holds
pub record IsOutside (mark : ℕ) : Type 0 where
  pub hex : is_ascii_hexdigit mark ≡ false
  pub digit : digit_value mark ≡ 36
  pub not_colon : (58 == mark) ≡ false
  pub not_stop : (46 == mark) ≡ false
  pub future : is_future_char mark ≡ false

pub join_lacks : (mark sep : ℕ) → (sep == mark) ≡ false → (pieces : List Text) → list_all (lacks mark) pieces ≡ true → lacks mark (join_with_byte sep pieces) ≡ true
join_lacks mark sep h [] k = refl
join_lacks mark sep h (p ∷ []) k = first_of_both (lacks mark p) true k
join_lacks mark sep h (p ∷ q ∷ pieces) k = grind (arith, lacks-append, join_lacks mark sep h (q ∷ pieces))

digits_lack : (mark : ℕ) → digit_value mark ≡ 36 → (ds : Text) → AllDigits 10 ds → lacks mark ds ≡ true
digits_lack mark m [] h = refl
digits_lack mark m (c ∷ cs) h = grind (arith, digits_lack mark m cs h.1)

pub decimal_lacks : (mark : ℕ) → digit_value mark ≡ 36 → (n : ℕ) → n < 256 → lacks mark (decimal n) ≡ true
decimal_lacks mark m n h = digits_lack mark m (decimal n) ((decimal_is_IsNumeral n (lt_trans h (lit< tt))).0.1)

pub ipv4_lacks : (mark : ℕ) → IsOutside mark → (text : Text) (n : ℕ) → IsIpv4 text n → lacks mark text ≡ true
ipv4_lacks mark m text n v =
    let l = decimal_lacks mark m.digit in
    subst (λ t. lacks mark t ≡ true) (sym v.spelled)
    (join_lacks mark 46 m.not_stop (decimal v.a ∷ decimal v.b ∷ decimal v.c ∷ decimal v.d ∷ [])
    (and_from (lacks mark (decimal v.a)) _ (l v.a v.in_range.0) (and_from (lacks mark (decimal v.b)) _ (l v.b v.in_range.1) (and_from (lacks mark (decimal v.c)) _ (l v.c v.in_range.2) (and_from (lacks mark (decimal v.d)) true (l v.d v.in_range.3) refl)))))

pieces_lack : (mark : ℕ) → IsOutside mark → (pieces : List Text) (groups : List ℕ) → AllZip IsGroup pieces groups → list_all (lacks mark) pieces ≡ true
pieces_lack mark m [] [] z = refl
pieces_lack mark m [] (n ∷ ns) z = absurd z
pieces_lack mark m (p ∷ pieces) [] z = absurd z
pieces_lack mark m (p ∷ pieces) (n ∷ ns) z = grind (arith, all_lacks, pieces_lack mark m pieces ns z.1)

groups_lack : (mark : ℕ) → IsOutside mark → (text : Text) (groups : List ℕ) → AreGroups text groups → lacks mark text ≡ true
groups_lack mark m text groups z = grind (arith, join_lacks, pieces_lack)

last_groups_lack : (mark : ℕ) → IsOutside mark → (text : Text) (groups : List ℕ) → AreLastGroups text groups → lacks mark text ≡ true
last_groups_lack mark m text groups (inl z) = groups_lack mark m text groups z
last_groups_lack mark m text groups (inr z) =
    subst (λ t. lacks mark t ≡ true) (sym z.spelled)
    (join_lacks mark 58 m.not_colon (z.pieces ++ z.last ∷ []) (list_all-snoc (lacks mark) z.pieces z.last (pieces_lack mark m z.pieces z.front z.groups_before) (ipv4_lacks mark m z.last z.n z.ipv4)))

ipv6_lacks : (mark : ℕ) → IsOutside mark → (text : Text) (groups : List ℕ) → IsFullIpv6 text groups ⊎ IsShortIpv6 text groups → lacks mark text ≡ true
ipv6_lacks mark m text groups (inl z) = last_groups_lack mark m text groups z.0
ipv6_lacks mark m text groups (inr z) =
    subst (λ t. lacks mark t ≡ true) (sym z.spelled)
    (lacks-append mark (z.before ++ codes "::") z.after
    (lacks-append mark z.before (codes "::") (groups_lack mark m z.before z.left z.left_groups) (lacks_more mark 58 (58 ∷ []) m.not_colon (lacks_more mark 58 [] m.not_colon refl)))
    (last_groups_lack mark m z.after z.right z.right_groups))

future_lacks : (mark : ℕ) → IsOutside mark → (char_set_contains (codes "vV") mark ≡ false) → (text : Text) → is_ipvfuture text ≡ true → lacks mark text ≡ true
unfolding is_ipvfuture
future_lacks mark m v [] h = refl
future_lacks mark m v (c ∷ cs) h =
    let ab = first_of_both (char_set_contains (codes "vV") c && is_future_version (before (full_stop ∷ []) cs)) (is_future_address (after full_stop cs)) h in
    let letter = first_of_both (char_set_contains (codes "vV") c) (is_future_version (before (full_stop ∷ []) cs)) ab in
    let version = second_of_both (char_set_contains (codes "vV") c) (is_future_version (before (full_stop ∷ []) cs)) ab in
    let hex = second_of_both (not (is_empty (before (full_stop ∷ []) cs))) (list_all is_ascii_hexdigit (before (full_stop ∷ []) cs)) version in
    all_lacks_first c letter (by (after full_stop cs) (cut full_stop cs) (second_of_both (char_set_contains (codes "vV") c && is_future_version (before (full_stop ∷ []) cs)) (is_future_address (after full_stop cs)) h) (all_lacks is_ascii_hexdigit mark m.hex (before (full_stop ∷ []) cs) hex))
  where
    all_lacks_first : (d : ℕ) → char_set_contains (codes "vV") d ≡ true → lacks mark cs ≡ true → lacks mark (d ∷ cs) ≡ true
    all_lacks_first d l r = grind arith

    by : (o : Option Text) → before (full_stop ∷ []) cs ++ then_part (full_stop ∷ []) o ≡ cs → is_future_address o ≡ true → lacks mark (before (full_stop ∷ []) cs) ≡ true → lacks mark cs ≡ true
    by None e k l = absurd (true≢false (sym k))
    by (Some rest) e k l = grind (arith, common_steps, lacks-append, lacks_more, all_lacks)

pub address_lacks : (mark : ℕ) → IsOutside mark → (char_set_contains (codes "vV") mark ≡ false) → (text : Text) → is_ip_address text ≡ true → lacks mark text ≡ true
address_lacks mark m v text h = by (ipv6_value text) refl h
  where
    by : (o : Option ℕ) → ipv6_value text ≡ o → (is_some o || is_ipvfuture text) ≡ true → lacks mark text ≡ true
    by None e k = future_lacks mark m v text k
    by (Some n) e k = let z = ipv6_value-sound text n e in ipv6_lacks mark m text z.0 z.1

-- what stands before a delimiter lacks it
pub before_lacks : (mark : ℕ) (text : Text) → lacks mark (before (mark ∷ []) text) ≡ true
before_lacks mark [] = refl
before_lacks mark (c ∷ cs) = elim (eqb_tells mark c) [
  | inl e ↦ ap (lacks mark) (before-yes (mark ∷ []) c cs (λ i. e.0 i || false))
  | inr e ↦ ap (lacks mark) (before-no (mark ∷ []) c cs (λ i. e.0 i || false)) ∙ lacks_more mark c (before (mark ∷ []) cs) (other_way c mark e.1) (before_lacks mark cs)
]
  where
    other_way : (x y : ℕ) → (y ≡ x → ⊥) → (x == y) ≡ false
    other_way x y n = elim (eqb_tells x y) [ inl f ↦ absurd (n (sym f.1)) | inr f ↦ f.0 ]
