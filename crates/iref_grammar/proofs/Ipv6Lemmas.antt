-- IPv6 addresses: the computed value is one of the rule.
use Rattle.std.proofs.Common.{◌≡◌, ℕ, ◌+◌, ◌/◌, ◌%◌, ◌≤◌, true, List, [], ◌∷◌, ◌++◌, length, map, drop, refl, sym, ◌∙◌, ap, subst, arith, append_assoc, ◌⊎◌, inl, inr, ◌==◌, codes, Option, Some, None, option_map, option_and_then, true≢false}
use Rattle.std.proofs.{lemmas.Grind.{common_steps}, lemmas.Option.{same_Some}, Math.Bool.{and-false}}
use Rattle.std.specs.{Option.{option_or}, List.{AllZip, join_with_byte}}
use Rattle.iref_grammar.specs.{Rules.{Text}, Texts.{begins_with}}
use Rattle.iref_grammar.specs.IpAddresses.{IsIpv4, IsGroup, AreGroups, AreLastGroups, IsShortIpv6, IsFullIpv6, IsIpv6, number_of, filled_groups, all_some, ipv4_value, group_value, last_group_values, last_groups_of, group_pieces, around_double_colon, eight_groups, joined_groups, short_ipv6_groups, ipv6_groups, ipv6_value}
use Rattle.iref_grammar.proofs.{TextLemmas.{join-pieces_at}, Ipv4Lemmas.{ipv4_value-sound}}

group_value-sound : (text : Text) (n : ℕ) → group_value text ≡ Some n → IsGroup text n
group_value-sound text n h = grind arith

groups_sound : (pieces : List Text) (groups : List ℕ) → all_some (map group_value pieces) ≡ Some groups → AllZip IsGroup pieces groups
groups_sound [] [] h = tt
groups_sound [] (n ∷ ns) h = cc
groups_sound (p ∷ pieces) groups h = grind (arith, groups_sound pieces)

join-group_pieces : (text : Text) → join_with_byte 58 (group_pieces text) ≡ text
join-group_pieces [] = refl
join-group_pieces (c ∷ cs) = join-pieces_at 58 (c ∷ cs)

are_groups : (text : Text) (groups : List ℕ) → all_some (map group_value (group_pieces text)) ≡ Some groups → AreGroups text groups
are_groups text groups h = (group_pieces text, groups_sound (group_pieces text) groups h, sym (join-group_pieces text))

-- pieces that are groups, of which the last may be an IPv4 address
record EndsSo (pieces : List Text) (groups : List ℕ) : Type 0 where
  front_pieces : List Text
  front : List ℕ
  last : Text
  n : ℕ
  groups_before : AllZip IsGroup front_pieces front
  ipv4 : IsIpv4 last n
  split : pieces ≡ front_pieces ++ last ∷ []
  value : groups ≡ front ++ n / 65536 ∷ n % 65536 ∷ []

LastPieces : List Text → List ℕ → Type 0
LastPieces pieces groups = AllZip IsGroup pieces groups ⊎ EndsSo pieces groups

last_segment : (p : Text) (groups : List ℕ) → last_group_values p ≡ Some groups → LastPieces (p ∷ []) groups
unfolding LastPieces
last_segment p groups h = by (group_value p) refl (ipv4_value p) refl h
  where
    by : (o : Option ℕ) → group_value p ≡ o → (q : Option ℕ) → ipv4_value p ≡ q → option_or (option_map (λ n. n ∷ []) o) (option_map (λ n. n / 65536 ∷ n % 65536 ∷ []) q) ≡ Some groups → AllZip IsGroup (p ∷ []) groups ⊎ EndsSo (p ∷ []) groups
    by (Some n) e q f k = inl (subst (λ xs. AllZip IsGroup (p ∷ []) xs) (same_Some (n ∷ []) groups k) (group_value-sound p n e, tt))
    by None e (Some n) f k = inr (record { front_pieces = []; front = []; last = p; n = n; groups_before = tt; ipv4 = ipv4_value-sound p n f; split = refl; value = sym (same_Some (n / 65536 ∷ n % 65536 ∷ []) groups k) })
    by None e None f k = cc

last_pieces : (pieces : List Text) (groups : List ℕ) → last_groups_of pieces ≡ Some groups → LastPieces pieces groups
unfolding LastPieces
last_pieces [] [] h = inl tt
last_pieces [] (n ∷ ns) h = cc
last_pieces (p ∷ []) groups h = last_segment p groups h
last_pieces (p ∷ q ∷ pieces) groups h = by (group_value p) refl (last_groups_of (q ∷ pieces)) refl (λ ns. last_pieces (q ∷ pieces) ns) h
  where
    by : (o : Option ℕ) → group_value p ≡ o → (os : Option (List ℕ)) → last_groups_of (q ∷ pieces) ≡ os → ((ns : List ℕ) → last_groups_of (q ∷ pieces) ≡ Some ns → LastPieces (q ∷ pieces) ns)
        → option_and_then (λ n. option_map (λ ns. n ∷ ns) os) o ≡ Some groups → AllZip IsGroup (p ∷ q ∷ pieces) groups ⊎ EndsSo (p ∷ q ∷ pieces) groups
    by None e os f r k = cc
    by (Some n) e None f r k = cc
    by (Some n) e (Some ns) f r k =
        let same : n ∷ ns ≡ groups = same_Some (n ∷ ns) groups k in
        elim (r ns f) [
          | inl z ↦ inl (subst (λ xs. AllZip IsGroup (p ∷ q ∷ pieces) xs) same (group_value-sound p n e, z))
          | inr z ↦ inr (record {
            front_pieces = p ∷ z.front_pieces;
            front = n ∷ z.front;
            last = z.last;
            n = z.n;
            groups_before = (group_value-sound p n e, z.groups_before);
            ipv4 = z.ipv4;
            split = ap (λ ps. p ∷ ps) z.split;
            value = sym same ∙ ap (λ xs. n ∷ xs) z.value;
          })
        ]

are_last_groups : (text : Text) (groups : List ℕ) → last_groups_of (group_pieces text) ≡ Some groups → AreLastGroups text groups
unfolding LastPieces
are_last_groups text groups h = elim (last_pieces (group_pieces text) groups h) [
  | inl z ↦ inl (group_pieces text, z, sym (join-group_pieces text))
  | inr z ↦ inr (record {
    pieces = z.front_pieces;
    front = z.front;
    last = z.last;
    n = z.n;
    groups_before = z.groups_before;
    ipv4 = z.ipv4;
    spelled = sym (join-group_pieces text) ∙ ap (join_with_byte 58) z.split;
    value = z.value;
  })
]

-- what `::` begins
pub colons : (text : Text) → begins_with (codes "::") text ≡ true → 58 ∷ 58 ∷ drop 2 text ≡ text
colons [] h = cc
colons (a ∷ []) h = absurd (true≢false (sym h ∙ and-false (58 == a)))
colons (a ∷ b ∷ rest) h = grind arith

-- what stands around `::`
around-sound : (text : Text) (parts : Text × Text) → around_double_colon text ≡ Some parts → text ≡ parts.0 ++ (codes "::" ++ parts.1)
around-sound [] parts h = cc
around-sound (c ∷ cs) parts h = grind (arith, around-sound cs)

joined-sound : (left right groups : List ℕ) → joined_groups left right ≡ Some groups → (length left + length right ≤ 7) × (groups ≡ filled_groups left right)
joined-sound left right groups h = grind arith

short-sound : (text : Text) (parts : Text × Text) (groups : List ℕ) → text ≡ parts.0 ++ (codes "::" ++ parts.1) → short_ipv6_groups parts ≡ Some groups → IsShortIpv6 text groups
short-sound text parts groups s h = by (all_some (map group_value (group_pieces parts.0))) refl (last_groups_of (group_pieces parts.1)) refl h
  where
    by : (o : Option (List ℕ)) → all_some (map group_value (group_pieces parts.0)) ≡ o → (q : Option (List ℕ)) → last_groups_of (group_pieces parts.1) ≡ q
        → option_and_then (λ left. option_and_then (joined_groups left) q) o ≡ Some groups → IsShortIpv6 text groups
    by None e q f k = cc
    by (Some left) e None f k = cc
    by (Some left) e (Some right) f k =
        let j = joined-sound left right groups k in
        record {
          before = parts.0;
          after = parts.1;
          left = left;
          right = right;
          left_groups = are_groups parts.0 left e;
          right_groups = are_last_groups parts.1 right f;
          few = j.0;
          spelled = s ∙ sym (append_assoc parts.0 (codes "::") parts.1);
          value = j.1;
        }

groups-sound : (text : Text) (groups : List ℕ) → ipv6_groups text ≡ Some groups → IsFullIpv6 text groups ⊎ IsShortIpv6 text groups
groups-sound text groups h = by (around_double_colon text) refl (last_groups_of (group_pieces text)) refl h
  where
    by : (o : Option (Text × Text)) → around_double_colon text ≡ o → (q : Option (List ℕ)) → last_groups_of (group_pieces text) ≡ q
        → (elim o as (λ x. Option (List ℕ)) [ None ↦ option_and_then eight_groups q | Some parts ↦ short_ipv6_groups parts ]) ≡ Some groups → IsFullIpv6 text groups ⊎ IsShortIpv6 text groups
    by None e None f k = cc
    by None e (Some gs) f k = grind (arith, common_steps, are_last_groups)
    by (Some parts) e q f k = inr (short-sound text parts groups (around-sound text parts e) k)

-- what is computed is an address of that number
pub ipv6_value-sound : (text : Text) (n : ℕ) → ipv6_value text ≡ Some n → IsIpv6 text n
unfolding ipv6_value
ipv6_value-sound text n h = by (ipv6_groups text) refl h
  where
    by : (o : Option (List ℕ)) → ipv6_groups text ≡ o → option_map (number_of 65536) o ≡ Some n → IsIpv6 text n
    by None e k = cc
    by (Some groups) e k = (groups, groups-sound text groups e, sym (same_Some (number_of 65536 groups) n k))
