-- The first character of a text and its first byte, where either is ASCII, and IP literals, which are.
use Rattle.std.proofs.Common.{◌≡◌, ◌≢◌, ℕ, ◌<◌, Bool, true, false, [], ◌∷◌, length, refl, sym, ap, ◌∙◌, arith, chars, IsUtf8, get_or, ◌⊎◌, inl, inr, subst, lit<, length-append, ◌==◌, encode_utf8, encode_utf8_all, Some, None, if◌then◌else◌}
use Rattle.std.proofs.lemmas.Bool.Decides.{nat_tests, eqb_tells, same_from_decides, Decides-like}
use Rattle.std.proofs.lemmas.Str.{encodes-chars, scalars-chars, chars_from_encodes, char_from_byte, byte_from_char, length-encode, len_utf8_bounds}
use Rattle.iref_grammar.specs.{Characters.{CharTests}, Rules.{Text}}
use Rattle.iref_grammar.specs.{Grammar.{IsIpLiteral, left_bracket, colon, is_reg_name_char}, Texts.{begins_with}}
use Rattle.iref_grammar.specs.Tests.{is_ip_literal}
use Rattle.iref_grammar.proofs.HostRuleLemmas.{Decides-is_ip_literal, Decides-is_ip_literal_bytes}
use Rattle.iref_fault.specs.Places.{encoded_place, host_place, path_place, bare_path_place}
use Rattle.iref_fault.specs.BytePlaces.{located, byte_place}

begins-first : (mark : ℕ) (text : Text) → 0 < length text → begins_with (mark ∷ []) text ≡ (mark == get_or text 0 0)
begins-first mark [] l = absurd (omega arith)
begins-first mark (c ∷ cs) l = grind (arith, nat_tests)

pub begins_in_chars : (mark : ℕ) (text : Text) → mark < 128 → IsUtf8 text → begins_with (mark ∷ []) (chars text) ≡ begins_with (mark ∷ []) text
begins_in_chars mark text low u = by (chars text) (encodes-chars text u)
  where
    by : (cs : Text) → encode_utf8_all cs ≡ text → begins_with (mark ∷ []) cs ≡ begins_with (mark ∷ []) text
    by [] e = ap (begins_with (mark ∷ [])) e
    by (c ∷ cs) e =
        let some : 0 < length text = omega (arith, ap length (sym e), length-append (encode_utf8 c) (encode_utf8_all cs), length-encode c, (len_utf8_bounds c).0) in
        let one : 0 < length (c ∷ cs) = omega arith in
        begins-first mark (c ∷ cs) one ∙ same (eqb_tells mark c) some ∙ sym (begins-first mark text some)
      where
        same : ((mark == c) ≡ true) × (mark ≡ c) ⊎ ((mark == c) ≡ false) × (mark ≢ c) → 0 < length text → (mark == c) ≡ (mark == get_or text 0 0)
        same (inl t) some = let first = byte_from_char text (encode_utf8_all cs) c (sym e) (omega (arith, t.1)) in ap (λ b. mark == b) (sym first)
        same (inr t) some = t.0 ∙ sym (elim (eqb_tells mark (get_or text 0 0)) [
          | inl r ↦ absurd (t.1 (r.1 ∙ sym (char_from_byte text (encode_utf8_all cs) c (sym e) (omega (arith, r.1)) some)))
          | inr r ↦ r.0
        ])

pub literal_in_chars : (text : Text) → IsUtf8 text → is_ip_literal (chars text) ≡ is_ip_literal text
literal_in_chars text u =
    same_from_decides (is_ip_literal (chars text)) (is_ip_literal text) (Decides-is_ip_literal (chars text))
    (Decides-like (is_ip_literal text)
    (λ z. subst IsIpLiteral (chars_from_encodes z.0 text u z.2) z.3)
    (λ l. (chars text, scalars-chars text u, encodes-chars text u, l))
    (Decides-is_ip_literal_bytes text))

-- where a host is wrong, by its first character
pub host_named : (set : CharTests) (text : Text) → IsUtf8 text → begins_with (left_bracket ∷ []) text ≡ false → byte_place (host_place set) text ≡ byte_place (encoded_place (is_reg_name_char set)) text
host_named set text u h =
    ap (λ b. located 0 (chars text) (if b then (if is_ip_literal (chars text) then None else Some 0) else encoded_place (is_reg_name_char set) (chars text))) (begins_in_chars left_bracket text (lit< tt) u ∙ h)

pub host_in_brackets : (set : CharTests) (text : Text) (literal : Bool) → IsUtf8 text → begins_with (left_bracket ∷ []) text ≡ true → is_ip_literal text ≡ literal → byte_place (host_place set) text ≡ (if literal then None else Some 0)
host_in_brackets set text literal u h k =
    ap (λ b. located 0 (chars text) (if b then (if is_ip_literal (chars text) then None else Some 0) else encoded_place (is_reg_name_char set) (chars text))) (begins_in_chars left_bracket text (lit< tt) u ∙ h)
    ∙ ap (λ b. located 0 (chars text) (if b then None else Some 0)) (literal_in_chars text u ∙ k)
    ∙ by literal
  where
    by : (b : Bool) → located 0 (chars text) (if b then None else Some 0) ≡ (if b then None else Some 0)
    by true = refl
    by false = refl

-- where a path is wrong that stands alone
pub bare_path_colon : (set : CharTests) (text : Text) → IsUtf8 text → begins_with (colon ∷ []) text ≡ true → byte_place (bare_path_place set) text ≡ Some 0
bare_path_colon set text u h = ap (λ b. located 0 (chars text) (if b then Some 0 else path_place set (chars text))) (begins_in_chars colon text (lit< tt) u ∙ h)

pub bare_path_other : (set : CharTests) (text : Text) → IsUtf8 text → begins_with (colon ∷ []) text ≡ false → byte_place (bare_path_place set) text ≡ byte_place (path_place set) text
bare_path_other set text u h = ap (λ b. located 0 (chars text) (if b then Some 0 else path_place set (chars text))) (begins_in_chars colon text (lit< tt) u ∙ h)

pub ruleset by_first_char = (host_named, host_in_brackets, bare_path_colon, bare_path_other)
