-- An IPv4 address read octet by octet.
use Rattle.std.proofs.Common.{◌≡◌, ◌≢◌, ℕ, suc, ◌<◌, ◌≤◌, Bool, false, cond, List, [], ◌∷◌, length, map, refl, sym, ◌∙◌, ap, subst, arith, lit<, ◌==◌, Option, Some, None, option_map, option_and_then, IfSome, decimal, w32}
use Rattle.std.proofs.{lemmas.Bool.Decides.{nat_tests}, lemmas.List.Splits.{slice_split_first}}
use Rattle.std.specs.{List.{position_or_len, before_first, after_first, join_with_byte}, Int.{from_be_bytes}}
use Rattle.iref_grammar.specs.{Rules.{Text}, Texts.{pieces_at}}
use Rattle.iref_grammar.specs.IpAddresses.{number_of, all_some, octet_value, octet_values, four_octets, ipv4_value}
use Rattle.iref_grammar.proofs.{TextLemmas.{pieces_at-one, join-pieces_at}, SliceLemmas.{pieces_at-whole}}
use Rattle.iref_grammar.proofs.Ipv4Lemmas.{octet_text, decimal_lacks_stop}
use Rattle.iref_parse.proofs.GroupLemmas.{more}

abbrev is_stop : ℕ → Bool
is_stop c = c == 46

abbrev AreFewer : ℕ → Option (List ℕ) → Type 0
AreFewer k o = IfSome o (λ ns. length ns < k)

-- the octet before the first `.`, and those after it
pub octet_values-first : (text front back : Text) (n : ℕ) → position_or_len is_stop text < length text → front ≡ before_first is_stop text → back ≡ after_first is_stop text → octet_value front ≡ Some n → octet_values text ≡ more n (octet_values back)
octet_values-first text front back n found e f v =
    ap (λ ps. all_some (map octet_value ps)) (slice_split_first is_stop text 0 found)
    ∙ (λ i. option_and_then (λ x. option_map (λ xs. x ∷ xs) (octet_values (sym f i))) (octet_value (sym e i)))
    ∙ ap (λ o. option_and_then (λ x. option_map (λ xs. x ∷ xs) (octet_values back)) o) v

pub octet_values-refused : (text front : Text) → position_or_len is_stop text < length text → front ≡ before_first is_stop text → octet_value front ≡ None → AreFewer 2 (octet_values text)
octet_values-refused text front found e v =
    subst (AreFewer 2) (sym (ap (λ ps. all_some (map octet_value ps)) (slice_split_first is_stop text 0 found)
    ∙ ap (λ o. option_and_then (λ x. option_map (λ xs. x ∷ xs) (octet_values (after_first is_stop text))) o) (ap octet_value (sym e) ∙ v))) tt

pub octet_values-one : (text : Text) → position_or_len is_stop text ≡ length text → AreFewer 2 (octet_values text)
octet_values-one text h = subst (λ ps. AreFewer 2 (all_some (map octet_value ps))) (sym (pieces_at-whole 46 text h)) (by (octet_value text))
  where
    by : (o : Option ℕ) → AreFewer 2 (option_and_then (λ x. option_map (λ xs. x ∷ xs) (Some [])) o)
    by None = tt
    by (Some n) = lit< tt

-- the last octet
octet_values-last : (text : Text) (n : ℕ) → octet_value text ≡ Some n → octet_values text ≡ Some (n ∷ [])
octet_values-last text n h =
    let z = octet_text text n h in
    let one : pieces_at 46 text ≡ text ∷ [] = ap (pieces_at 46) z.1 ∙ pieces_at-one 46 (decimal n) (decimal_lacks_stop n z.0) ∙ ap (λ t. t ∷ []) (sym z.1) in
    ap (λ ps. all_some (map octet_value ps)) one ∙ ap (λ o. option_and_then (λ x. option_map (λ xs. x ∷ xs) (Some [])) o) h

-- a text that is no octet is not read as one
octet_values-not_last : (text : Text) → octet_value text ≡ None → IfSome (octet_values text) (λ ns. length ns ≢ 1)
octet_values-not_last text h = by (pieces_at 46 text) (join-pieces_at 46 text)
  where
    two : (o p : Option ℕ) (q : Option (List ℕ)) → IfSome (option_and_then (λ x. option_map (λ xs. x ∷ xs) (option_and_then (λ y. option_map (λ ys. y ∷ ys) q) p)) o) (λ ns. length ns ≢ 1)
    two None p q = tt
    two (Some x) None q = tt
    two (Some x) (Some y) None = tt
    two (Some x) (Some y) (Some ys) = λ e. absurd (omega arith)

    by : (ps : List Text) → join_with_byte 46 ps ≡ text → IfSome (all_some (map octet_value ps)) (λ ns. length ns ≢ 1)
    by [] e = λ k. absurd (omega arith)
    by (p ∷ []) e = subst (λ o. IfSome (option_and_then (λ x. option_map (λ xs. x ∷ xs) (Some [])) o) (λ ns. length ns ≢ 1)) (sym (ap octet_value e ∙ h)) tt
    by (p ∷ q ∷ ps) e = two (octet_value p) (octet_value q) (all_some (map octet_value ps))

-- ---- the address, after some octets

-- the octets, if each is one, are not so many
abbrev Lacks : ℕ → Option (List ℕ) → Type 0
Lacks k o = IfSome o (λ ns. length ns ≢ k)

lacks_more : (k n : ℕ) (o : Option (List ℕ)) → Lacks k o → Lacks (suc k) (more n o)
lacks_more k n None h = tt
lacks_more k n (Some ns) h = λ e. let fewer : length ns ≡ k = omega arith in h fewer

lacks_from_few : (k : ℕ) (o : Option (List ℕ)) → 2 ≤ k → AreFewer 2 o → Lacks k o
lacks_from_few k None some h = tt
lacks_from_few k (Some ns) some h = λ e. absurd (omega arith)

ipv4_value-refused : (text : Text) (o : Option (List ℕ)) → octet_values text ≡ o → Lacks 4 o → ipv4_value text ≡ None
unfolding ipv4_value
ipv4_value-refused text None e h = ap (option_and_then four_octets) e
ipv4_value-refused text (Some ns) e h =
    let no : (length ns == 4) ≡ false = grind (arith, nat_tests) in
    ap (option_and_then four_octets) e ∙ ap (λ b. cond b (Some (number_of 256 ns)) None) no

pub after_none : (text : Text) → AreFewer 2 (octet_values text) → ipv4_value text ≡ None
after_none text h = ipv4_value-refused text _ refl (lacks_from_few 4 _ (omega arith) h)

pub after_one : (text rest : Text) (a : ℕ) → octet_values text ≡ more a (octet_values rest) → AreFewer 2 (octet_values rest) → ipv4_value text ≡ None
after_one text rest a e h = ipv4_value-refused text _ e (lacks_more 3 a _ (lacks_from_few 3 _ (omega arith) h))

pub after_two : (text second rest : Text) (a b : ℕ) → octet_values text ≡ more a (octet_values second) → octet_values second ≡ more b (octet_values rest) → AreFewer 2 (octet_values rest) → ipv4_value text ≡ None
after_two text second rest a b e f h = ipv4_value-refused text _ (e ∙ ap (more a) f) (lacks_more 3 a _ (lacks_more 2 b _ (lacks_from_few 2 _ (omega arith) h)))

module _ (text second third rest : Text) (a b c : ℕ) (e : octet_values text ≡ more a (octet_values second)) (f : octet_values second ≡ more b (octet_values third)) (g : octet_values third ≡ more c (octet_values rest)) where
  three : octet_values text ≡ more a (more b (more c (octet_values rest)))
  three = e ∙ ap (more a) (f ∙ ap (more b) g)

  pub after_three-refused : octet_value rest ≡ None → ipv4_value text ≡ None
  after_three-refused h = ipv4_value-refused text _ three (lacks_more 3 a _ (lacks_more 2 b _ (lacks_more 1 c _ (octet_values-not_last rest h))))

  pub after_three : (d : ℕ) → octet_value rest ≡ Some d → ipv4_value text ≡ Some (from_be_bytes w32 (a ∷ b ∷ c ∷ d ∷ []))
  unfolding ipv4_value
  after_three d h =
      let same : number_of 256 (a ∷ b ∷ c ∷ d ∷ []) ≡ from_be_bytes w32 (a ∷ b ∷ c ∷ d ∷ []) = omega arith in
      ap (option_and_then four_octets) (three ∙ ap (λ o. more a (more b (more c o))) (octet_values-last rest d h)) ∙ ap (λ n. Some n) same
