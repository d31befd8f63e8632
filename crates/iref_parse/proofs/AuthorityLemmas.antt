-- A host alone, and a host with a port, is an authority.
use Rattle.std.proofs.Common.{◌≡◌, true, ◌&&◌, ◌||◌, [], ◌∷◌, ◌++◌, ◌<◌, ◌≤◌, false, append_assoc, length, get_or, drop, sym, ◌∙◌, ap, arith, refl, cond, Bool, ℕ, Option, Some, None, codes, ◌==◌, true≢false}
use Rattle.std.proofs.{lemmas.List.{append-nil}, lemmas.Bool.{eqb-true, and_parts}}
use Rattle.std.specs.{List.{list_all}, Char.{char_set_contains, is_ascii_digit}}
use Rattle.iref_grammar.specs.{Characters.{CharTests, AreAboveAscii}, Rules.{Text}}
use Rattle.iref_grammar.specs.Grammar.{at_sign, colon, slash, left_bracket, right_bracket}
use Rattle.iref_grammar.specs.Texts.{after_first_char, begins_with, lacks, before, from_first, after, then_part}
use Rattle.iref_grammar.specs.Tests.{is_host, is_port, is_ip_literal, is_ip_address, is_ipv6, is_ipvfuture, is_reg_name, in_brackets, ends_here, some_and, none_or}
use Rattle.iref_grammar.specs.Authority.{AuthorityValue, spell_authority, read_authority, has_authority_parts, is_authority}
use Rattle.iref_grammar.proofs.CutLemmas.{cut, before-part, after-part, before-from_first, before-lacking, from_first-lacking, from_first-yes, from_first-no, rest_lacks}
use Rattle.iref_grammar.proofs.{HostLemmas.{before_lacks}, AuthorityLemmas.{read_authority-back, delimited_authority}}
use Rattle.iref_parse.specs.AuthoritySlices.{is_port_part}

abbrev without_user_info : Text → Option Text → AuthorityValue
without_user_info host port = record { user_info = None; host = host; port = port }

spelled_without : (host : Text) (port : Option Text) → spell_authority (without_user_info host port) ≡ host ++ then_part (colon ∷ []) port
unfolding spell_authority
spelled_without host port = refl

host_and_port : (set : CharTests) → AreAboveAscii set → (host : Text) (port : Option Text) → is_host set host ≡ true → none_or is_port port ≡ true → is_authority set (host ++ then_part (colon ∷ []) port) ≡ true
unfolding is_authority has_authority_parts
host_and_port set above host port h k =
    let parts : has_authority_parts set (without_user_info host port) ≡ true = λ i. h i && k i in
    ap (λ t. has_authority_parts set (read_authority t)) (sym (spelled_without host port))
    ∙ ap (has_authority_parts set) (read_authority-back (without_user_info host port) (delimited_authority set above (without_user_info host port) parts)) ∙ parts

pub host_alone : (set : CharTests) → AreAboveAscii set → (host : Text) → is_host set host ≡ true → is_authority set host ≡ true
host_alone set above host h = ap (is_authority set) (sym (append-nil host)) ∙ host_and_port set above host None h refl

-- a port after a host
pub port_after : (set : CharTests) → AreAboveAscii set → (host end : Text) → is_host set host ≡ true → is_port_part end ≡ true → is_authority set (host ++ end) ≡ true
unfolding is_port
port_after set above host [] h k = host_and_port set above host None h refl
port_after set above host (c ∷ port) h k =
    let both = and_parts (c == colon) (list_all is_ascii_digit port) k in
    ap (λ d. is_authority set (host ++ d ∷ port)) (eqb-true c colon both.0) ∙ host_and_port set above host (Some port) h both.1

abbrev in_its_brackets : Text → Text
in_its_brackets inside = left_bracket ∷ (inside ++ right_bracket ∷ [])

address_host : (set : CharTests) (inside : Text) → lacks right_bracket inside ≡ true → is_ipv6 inside ≡ true → is_host set (in_its_brackets inside) ≡ true
unfolding is_host is_ip_literal
address_host set inside h k =
    let read : in_brackets (in_its_brackets inside) ≡ Some inside = λ i. cond (ends_here (after-part right_bracket inside (Some []) h i)) (Some (before-part right_bracket inside (Some []) h i)) None in
    let literal : is_ip_literal (in_its_brackets inside) ≡ true = ap (some_and is_ip_address) read ∙ (λ i. k i || is_ipvfuture inside) in
    λ i. literal i || is_reg_name set (in_its_brackets inside)

-- an address in brackets, read up to its `]`
pub address_authority : (text rest inside end : Text) → text ≡ left_bracket ∷ rest → inside ≡ before (right_bracket ∷ []) rest → Some end ≡ after right_bracket rest → is_ipv6 inside ≡ true → is_port_part end ≡ true
    → (set : CharTests) → AreAboveAscii set → is_authority set text ≡ true
address_authority text rest inside end e f g h k set above =
    let host = address_host set inside (ap (lacks right_bracket) f ∙ before_lacks right_bracket rest) h in
    let spelled : left_bracket ∷ rest ≡ in_its_brackets inside ++ end =
    ap (λ t. left_bracket ∷ t) (sym (cut right_bracket rest) ∙ (λ i. sym f i ++ then_part (right_bracket ∷ []) (sym g i)) ∙ sym (append_assoc inside (right_bracket ∷ []) end)) in
    ap (is_authority set) (e ∙ spelled) ∙ port_after set above (in_its_brackets inside) end host k

pub slashes : (text : Text) → begins_with (codes "//") text ≡ true → text ≡ slash ∷ slash ∷ drop 2 text
slashes [] h = absurd (true≢false (sym h))
slashes (a ∷ []) h = absurd (true≢false (sym ((and_parts (slash == a) false h).1)))
slashes (a ∷ b ∷ rest) h =
    let parts = and_parts (slash == a) _ h in
    λ i. sym (eqb-true slash a parts.0) i ∷ sym (eqb-true slash b ((and_parts (slash == b) true parts.1).0)) i ∷ rest

-- the second byte of what begins with `//`
pub second_slash : (text : Text) → begins_with (codes "//") text ≡ true → (2 ≤ length text) × (get_or text 1 0 < 128)
second_slash text h = let e = slashes text h in (omega (arith, ap length e), omega (arith, ap (λ t. get_or t 1 0) e))

-- ---- a host alone

-- the text has neither of two characters
suffix_lacks : (mark end : ℕ) (text : Text) → lacks mark text ≡ true → lacks mark (from_first (end ∷ []) text) ≡ true
suffix_lacks mark end [] h = refl
suffix_lacks mark end (c ∷ cs) h = by (suffix_lacks mark end cs (rest_lacks mark c cs h)) (char_set_contains (end ∷ []) c) refl
  where
    by : lacks mark (from_first (end ∷ []) cs) ≡ true → (b : Bool) → char_set_contains (end ∷ []) c ≡ b → lacks mark (from_first (end ∷ []) (c ∷ cs)) ≡ true
    by k true e = ap (lacks mark) (from_first-yes (end ∷ []) c cs e) ∙ h
    by k false e = ap (lacks mark) (from_first-no (end ∷ []) c cs e) ∙ k

pub without_marks : (text : Text) → (lacks at_sign text && lacks colon text) ≡ true
    → read_authority text ≡ record { user_info = None; host = text; port = None }
unfolding read_authority
without_marks text h =
    let both = and_parts (lacks at_sign text) (lacks colon text) h in
    let none : after at_sign text ≡ None = ap after_first_char (from_first-lacking at_sign text both.0) in
    let bracket = begins_with (left_bracket ∷ []) text in
    rw (none, read_authority) (λ i. record { user_info = None; host = host both.1 bracket i; port = port both.1 bracket i })
  where
    host : lacks colon text ≡ true → (b : Bool) → cond b (before (right_bracket ∷ []) text) [] ++ before (colon ∷ []) (cond b (from_first (right_bracket ∷ []) text) text) ≡ text
    host k true = ap (λ t. before (right_bracket ∷ []) text ++ t) (before-lacking colon (from_first (right_bracket ∷ []) text) (suffix_lacks colon right_bracket text k)) ∙ before-from_first (right_bracket ∷ []) text
    host k false = before-lacking colon text k

    port : lacks colon text ≡ true → (b : Bool) → after colon (cond b (from_first (right_bracket ∷ []) text) text) ≡ None
    port k true = ap after_first_char (from_first-lacking colon (from_first (right_bracket ∷ []) text) (suffix_lacks colon right_bracket text k))
    port k false = ap after_first_char (from_first-lacking colon text k)
