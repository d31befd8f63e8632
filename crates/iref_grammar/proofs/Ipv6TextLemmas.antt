-- The host of an IPv6 number is a host, and is read as this number.
use Rattle.std.proofs.Common.{◌≡◌, ℕ, zero, suc, ◌+◌, ◌-◌, ◌/◌, ◌%◌, ◌^◌, ◌<◌, ◌≤◌, ◌++◌, true, false, cond, ◌||◌, List, [], ◌∷◌, length, take, drop, map, replicate, refl, sym, ap, ◌∙◌, inl, inr, ◌⊎◌, lit<, lit≤, append_assoc, length-drop, arith, lt_trans, Some, None, is_some, option_and_then, nat_le, codes}
use Rattle.std.proofs.{lemmas.List.{length-take}, lemmas.Fmt.{digits_is_IsNumeral}}
use Rattle.std.proofs.{lemmas.Bool.Decides.{nat_tests, leb_tells}, lemmas.Bool.{and_from}}
use Rattle.std.specs.List.{AllZip, list_all}
use Rattle.std.specs.{Fmt.{digits, digits_onto}, Char.{is_ascii_hexdigit, digit_value}, Str.Parse.{AllDigits}}
use Rattle.iref_grammar.specs.{Characters.{CharTests}, Rules.{Text}}
use Rattle.iref_grammar.specs.IpAddresses.{IsGroup, AreGroups, IsFullIpv6, IsShortIpv6, number_of, ipv6_value}
use Rattle.iref_grammar.specs.Grammar.{right_bracket}
use Rattle.iref_grammar.specs.Tests.{is_host, is_ip_literal, is_ip_address, is_ipvfuture, in_brackets, ends_here}
use Rattle.iref_grammar.proofs.{CutLemmas.{before-part, after-part}, HostLemmas.{address_lacks}}
use Rattle.iref_grammar.proofs.{Ipv6CompleteLemmas.{ipv6_value-complete}, HostRuleLemmas.{right_outside}}
use Rattle.iref_grammar.specs.HostNumbers.{groups_of, groups_text, ipv6_text, ipv6_host_text, longest_run, run_start, literal_value}
use Rattle.iref_grammar.proofs.ZeroRunLemmas.{first_longest_run}

-- ---- a group

length-digits : (k j n : ℕ) (after : Text) → n < 16 ^ suc j → length (digits_onto k 16 false n after) ≤ suc j + length after
length-digits zero j n after h = omega arith
length-digits (suc k) zero n after h = grind arith
length-digits (suc k) (suc j) n after h = grind (arith, length-digits k j (n / 16))

hexdigit : (c : ℕ) → digit_value c < 16 → is_ascii_hexdigit c ≡ true
hexdigit c h = grind (arith, nat_tests)

hexdigits : (text : Text) → AllDigits 16 text → list_all is_ascii_hexdigit text ≡ true
hexdigits [] h = refl
hexdigits (c ∷ cs) h = and_from (is_ascii_hexdigit c) (list_all is_ascii_hexdigit cs) (hexdigit c h.0) (hexdigits cs h.1)

group_of_digits : (n : ℕ) → n < 65536 → IsGroup (digits 16 false n) n
unfolding digits
group_of_digits n h =
    let numeral = digits_is_IsNumeral 16 false (lit≤ tt) (lit≤ tt) n (lt_trans h (lit< tt)) in
    record { nonempty = numeral.0.0; short = length-digits 64 3 n [] h; digits = hexdigits (digits 16 false n) numeral.0.1; value = sym numeral.1 }

number_of_groups : (n : ℕ) → n < 2 ^ 128 → number_of 65536 (groups_of n) ≡ n
number_of_groups n h = omega arith

-- ---- groups

-- each group is written in these digits
abbrev AreWritten : List ℕ → Type 0
AreWritten groups = AllZip IsGroup (map (digits 16 false) groups) groups

written-take : (k : ℕ) (groups : List ℕ) → AreWritten groups → AreWritten (take k groups)
written-take zero groups h = tt
written-take (suc k) [] h = tt
written-take (suc k) (g ∷ gs) h = (h.0, written-take k gs h.1)

written-drop : (k : ℕ) (groups : List ℕ) → AreWritten groups → AreWritten (drop k groups)
written-drop zero groups h = h
written-drop (suc k) [] h = tt
written-drop (suc k) (g ∷ gs) h = written-drop k gs h.1

are_groups : (groups : List ℕ) → AreWritten groups → AreGroups (groups_text groups) groups
are_groups groups h = (map (digits 16 false) groups, h, refl)

groups_of_written : (n : ℕ) → n < 2 ^ 128 → AreWritten (groups_of n)
groups_of_written n h =
    (group_of_digits (n / 2 ^ 112) (omega arith), (group_of_digits (n / 2 ^ 96 % 65536) (omega arith), (group_of_digits (n / 2 ^ 80 % 65536) (omega arith), (group_of_digits (n / 2 ^ 64 % 65536) (omega arith), (group_of_digits (n / 2 ^ 48 % 65536) (omega arith), (group_of_digits (n / 2 ^ 32 % 65536) (omega arith), (group_of_digits (n / 2 ^ 16 % 65536) (omega arith), (group_of_digits (n % 65536) (omega arith), tt))))))))

module _ (groups : List ℕ) (eight : length groups ≡ 8) (written : AreWritten groups) where
  abbrev start : ℕ
  start = run_start groups

  abbrev zeros : ℕ
  zeros = longest_run groups

  abbrev front : List ℕ
  front = take start groups

  abbrev back : List ℕ
  back = drop (start + zeros) groups

  short : nat_le 2 zeros ≡ true → 2 ≤ zeros → IsShortIpv6 (ipv6_text groups) groups
  short test h =
      let run = first_longest_run groups in
      let between : 8 - length front - length back ≡ zeros = omega (arith, run.within, length-take start groups, length-drop (start + zeros) groups) in
      record {
        before = groups_text front;
        after = groups_text back;
        left = front;
        right = back;
        left_groups = are_groups front (written-take start groups written);
        right_groups = inl (are_groups back (written-drop (start + zeros) groups written));
        few = omega (arith, run.within, length-take start groups, length-drop (start + zeros) groups);
        spelled = ap (λ b. cond b (groups_text front ++ codes "::" ++ groups_text back) (groups_text groups)) test;
        value = run.parted ∙ sym (append_assoc front (replicate zeros 0) back) ∙ ap (λ k. front ++ replicate k 0 ++ back) (sym between);
      }

  full : nat_le 2 zeros ≡ false → IsFullIpv6 (ipv6_text groups) groups
  full test = grind arith

  spelled_groups : IsFullIpv6 (ipv6_text groups) groups ⊎ IsShortIpv6 (ipv6_text groups) groups
  spelled_groups = elim (leb_tells 2 zeros) [ inl e ↦ inr (short e.0 e.1) | inr e ↦ inl (full e.0) ]

address_read_back : (n : ℕ) → n < 2 ^ 128 → ipv6_value (ipv6_text (groups_of n)) ≡ Some n
address_read_back n h = ipv6_value-complete (ipv6_text (groups_of n)) n (groups_of n, spelled_groups (groups_of n) refl (groups_of_written n h), sym (number_of_groups n h))

-- ---- in brackets

is_address : (n : ℕ) → n < 2 ^ 128 → is_ip_address (ipv6_text (groups_of n)) ≡ true
is_address n h = ap (λ o. is_some o || is_ipvfuture (ipv6_text (groups_of n))) (address_read_back n h)

between_brackets : (n : ℕ) → n < 2 ^ 128 → in_brackets (ipv6_host_text n) ≡ Some (ipv6_text (groups_of n))
between_brackets n h =
    let text = ipv6_text (groups_of n) in
    let lack = address_lacks right_bracket right_outside refl text (is_address n h) in
    λ i. cond (ends_here (after-part right_bracket text (Some []) lack i)) (Some (before-part right_bracket text (Some []) lack i)) None

pub ipv6_read_back : (n : ℕ) → n < 2 ^ 128 → literal_value (ipv6_host_text n) ≡ Some n
ipv6_read_back n h = ap (option_and_then ipv6_value) (between_brackets n h) ∙ address_read_back n h

pub ipv6_host : (set : CharTests) (n : ℕ) → n < 2 ^ 128 → is_host set (ipv6_host_text n) ≡ true
unfolding is_host is_ip_literal
ipv6_host set n h = grind (arith, between_brackets, is_address)

-- what is written is in its rule, and is read back
pub ruleset written = (ipv6_host, ipv6_read_back)
