-- An IPv6 address cut at its first `::`.
use Rattle.std.proofs.Common.{◌≡◌, ℕ, ◌<◌, ◌≤◌, zero, suc, false, cond, List, [], ◌∷◌, ◌++◌, length, take, drop, map, refl, sym, ◌∙◌, ap, arith, inl, inr, ◌==◌, codes, Option, Some, None, option_map, option_and_then}
use Rattle.std.proofs.lemmas.Bool.{false_from_ne_true}
use Rattle.std.specs.Str.Pattern.{LacksTextAt, FindsText}
use Rattle.iref_grammar.specs.{Rules.{Text}, Texts.{begins_with}}
use Rattle.iref_grammar.specs.IpAddresses.{number_of, group_value, all_some, group_pieces, last_groups_of, eight_groups, short_ipv6_groups, around_double_colon, ipv6_value}
use Rattle.iref_parse.specs.IpGroups.{counted, filled_number}
use Rattle.iref_grammar.proofs.Ipv6Lemmas.{colons}
use Rattle.iref_parse.proofs.GroupLemmas.{full_none, full_eight, around, around_refused, around_filled}

-- the text does not begin with `::`
lacks_front : (text : Text) → LacksTextAt (codes "::") text 0 → begins_with (codes "::") text ≡ false
lacks_front text h = false_from_ne_true _ (λ e. h (drop 2 text) (sym (colons text e)))

around-cons : (c : ℕ) (cs : Text) → LacksTextAt (codes "::") (c ∷ cs) 0 → around_double_colon (c ∷ cs) ≡ option_map (λ p. (c ∷ p.0, p.1)) (around_double_colon cs)
around-cons c cs h = ap (λ b. cond b (Some ([], drop 1 cs)) (option_map (λ p. (c ∷ p.0, p.1)) (around_double_colon cs))) (lacks_front (c ∷ cs) h)

around-nowhere : (text : Text) → ((i : ℕ) → i ≤ length text → LacksTextAt (codes "::") text i) → around_double_colon text ≡ None
around-nowhere [] h = refl
around-nowhere (c ∷ cs) h =
    around-cons c cs (h 0 (omega arith)) ∙ ap (option_map (λ p. (c ∷ p.0, p.1))) (around-nowhere cs (λ i l. h (suc i) (omega arith)))

around-at : (text : Text) (i : ℕ) (rest : Text) → ((k : ℕ) → k < i → LacksTextAt (codes "::") text k) → drop i text ≡ codes "::" ++ rest → around_double_colon text ≡ Some (take i text, rest)
around-at text zero rest h e = ap around_double_colon e
around-at [] (suc i) rest h e = cc
around-at (c ∷ cs) (suc i) rest h e =
    around-cons c cs (h 0 (omega arith)) ∙ ap (option_map (λ p. (c ∷ p.0, p.1))) (around-at cs i rest (λ k l. h (suc k) (omega arith)) e)

abbrev number_with : Text → Option (Text × Text) → Option ℕ
number_with text o = option_map (number_of 65536) (elim o as (λ p. Option (List ℕ)) [ None ↦ option_and_then eight_groups (last_groups_of (group_pieces text)) | Some parts ↦ short_ipv6_groups parts ])

-- what `split_once` at `::` and the counts of the groups say of the address
abbrev start_of : Text → Option (List ℕ)
start_of text = all_some (map group_value (group_pieces text))

abbrev end_of : Text → Option (List ℕ)
end_of text = last_groups_of (group_pieces text)

module _ (text : Text) (h : FindsText (codes "::") text None) where
  whole : ipv6_value text ≡ option_map (number_of 65536) (option_and_then eight_groups (end_of text))
  unfolding ipv6_value
  whole = ap (number_with text) (around-nowhere text h)

  pub whole_refused : counted (end_of text) ≡ None → ipv6_value text ≡ None
  whole_refused k = whole ∙ full_none (end_of text) k

  pub whole_eight : (count value : ℕ) → counted (end_of text) ≡ Some (count, value) → ipv6_value text ≡ cond (count == 8) (Some value) None
  whole_eight count value k = whole ∙ full_eight (end_of text) count value k

module _ (text front back : Text) (i j : ℕ) (h : FindsText (codes "::") text (Some (i, j))) (e : front ≡ take i text) (f : back ≡ drop j text) where
  both : ipv6_value text ≡ around (start_of front) (end_of back)
  unfolding ipv6_value
  both = ap (number_with text) (around-at text i (drop j text) h.0 h.1.split) ∙ (λ k. number_with text (Some (sym e k, sym f k)))

  pub start_refused : counted (start_of front) ≡ None → ipv6_value text ≡ None
  start_refused k = both ∙ around_refused (start_of front) (end_of back) (inl k)

  pub end_refused : counted (end_of back) ≡ None → ipv6_value text ≡ None
  end_refused k = both ∙ around_refused (start_of front) (end_of back) (inr k)

  pub both_filled : (start_count start end_count end : ℕ) → counted (start_of front) ≡ Some (start_count, start) → counted (end_of back) ≡ Some (end_count, end) → ipv6_value text ≡ filled_number start_count start end_count end
  both_filled start_count start end_count end k l = both ∙ around_filled (start_of front) (end_of back) start_count start end_count end k l

pub ruleset groups_by_colons = (whole_refused, whole_eight, both_filled)
