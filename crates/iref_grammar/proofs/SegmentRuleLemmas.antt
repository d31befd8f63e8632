-- The rules of first segments: a segment that is not empty, and one that holds no `:`.
use Rattle.std.proofs.Common.{arith, ◌≡◌, ℕ, ◌<◌, Bool, true, false, ◌||◌, List, [], ◌∷◌, ◌++◌, refl, sym, ◌∙◌, ap, subst, inl, inr, lit<, ◌==◌, encode_utf8_all, true≢false}
use Rattle.std.proofs.{lemmas.Grind.{common_steps}, Math.Logic.{◌↔◌}}
use Rattle.std.specs.{List.{AllByRecursion, concat}, Char.{encode_utf8}}
use Rattle.iref_grammar.specs.{Characters.{CharTests, AreAboveAscii}, Rules.{Text, Rule, ZeroOrMore, OneOrMore, InUtf8}}
use Rattle.iref_grammar.specs.Grammar.{colon, at_sign, percent_sign, is_reg_name_char, is_user_info_char, is_path_char, IsEncoded, IsSegment, IsNonEmptySegment, IsNonColonSegment}
use Rattle.iref_grammar.specs.Texts.{is_empty}
use Rattle.iref_grammar.proofs.{TextLemmas.{lacks}, RuleLemmas.{one_more}, EncodedLemmas.{Piece, Decides-is_encoded}}
use Rattle.iref_grammar.proofs.{LackLemmas.{lacks-encoded, encoded_lacks}, LeafLemmas.{percent_refused}}
use Rattle.iref_grammar.proofs.ComponentLackLemmas.{reg_name_refuses}

-- ---- texts that are not empty

encode_some : (c : ℕ) (t : Text) → is_empty (encode_utf8 c ++ t) ≡ false
unfolding encode_utf8
encode_some c t = grind arith

encodes_empty : (t : Text) → is_empty (encode_utf8_all t) ≡ is_empty t
encodes_empty [] = refl
encodes_empty (c ∷ cs) = encode_some c (encode_utf8_all cs)

-- one or more of pieces, none of them empty
pieces_some : (A : Rule) → ((p : Text) → A p → is_empty p ≡ false) → (text : Text) → OneOrMore A text ↔ (ZeroOrMore A text × (is_empty text ≡ false))
pieces_some A some text = (there, back)
  where
    append_some : (p t : Text) → is_empty p ≡ false → is_empty (p ++ t) ≡ false
    append_some [] t h = absurd (true≢false h)
    append_some (c ∷ p) t h = refl

    there : OneOrMore A text → ZeroOrMore A text × (is_empty text ≡ false)
    there z = (subst (ZeroOrMore A) z.4 (one_more A z.0 z.1 z.2 z.3), ap is_empty (sym z.4) ∙ append_some z.0 z.1 (some z.0 z.2))

    from_pieces : (pieces : List Text) → AllByRecursion A pieces → concat pieces ≡ text → is_empty text ≡ false → OneOrMore A text
    from_pieces [] all e h = absurd (true≢false (ap is_empty e ∙ h))
    from_pieces (p ∷ pieces) all e h = (p, concat pieces, all.0, (pieces, all.1, refl), e)

    back : ZeroOrMore A text × (is_empty text ≡ false) → OneOrMore A text
    back z = from_pieces z.0.0 z.0.1 z.0.2 z.1

piece_some : (test : ℕ → Bool) (p : Text) → Piece test p → is_empty p ≡ false
piece_some test p (inl one) = ap is_empty one.2
piece_some test p (inr esc) = ap is_empty (sym esc.4) ∙ ap (λ t. is_empty (t ++ esc.1)) esc.2

-- the same of bytes
some_bytes : (test : ℕ → Bool) (bytes : Text) → InUtf8 (OneOrMore (Piece test)) bytes ↔ (InUtf8 (IsEncoded test) bytes × (is_empty bytes ≡ false))
some_bytes test bytes = (
  λ z. let p = (pieces_some (Piece test) (piece_some test) z.0).0 z.3 in ((z.0, z.1, z.2, p.0), ap is_empty (sym z.2) ∙ encodes_empty z.0 ∙ p.1),
  λ z. let u = z.0 in (u.0, u.1, u.2, (pieces_some (Piece test) (piece_some test) u.0).1 (u.3, sym (encodes_empty u.0) ∙ ap is_empty u.2 ∙ z.1)),
)

pub in_utf8-nonempty : (set : CharTests) (bytes : Text) → InUtf8 (IsNonEmptySegment set) bytes ↔ (InUtf8 (IsSegment set) bytes × (is_empty bytes ≡ false))
in_utf8-nonempty set bytes = some_bytes (is_path_char set) bytes

-- ---- texts without `:`

lacks-split : (mark : ℕ) (xs ys : Text) → lacks mark (xs ++ ys) ≡ true → (lacks mark xs ≡ true) × (lacks mark ys ≡ true)
lacks-split mark [] ys h = (refl, h)
lacks-split mark (c ∷ xs) ys h = grind (arith, lacks-split mark xs ys)

pub lacks-decoded : (mark : ℕ) (cs : Text) → mark < 128 → lacks mark (encode_utf8_all cs) ≡ true → lacks mark cs ≡ true
lacks-decoded mark [] h k = refl
lacks-decoded mark (c ∷ cs) h k = grind (arith, common_steps, lacks-split, lacks-decoded mark cs h)

-- the characters of a segment without `:`
abbrev plain_char : CharTests → ℕ → Bool
plain_char set c = is_reg_name_char set c || c == at_sign

-- `:` or not, by cases
path_or_colon : (a b d : Bool) → ((a || b) || d) ≡ true → b ≡ false → (a || d) ≡ true
path_or_colon a true d h k = absurd (true≢false k)
path_or_colon true false d h k = refl
path_or_colon false false d h k = h

plain_or_path : (a b d : Bool) → (a || d) ≡ true → ((a || b) || d) ≡ true
plain_or_path true b d h = refl
plain_or_path false true d h = refl
plain_or_path false false d h = h

module _ (set : CharTests) (above : AreAboveAscii set) where
  plain_is_path : (c : ℕ) → plain_char set c ≡ true → is_path_char set c ≡ true
  unfolding is_path_char is_user_info_char
  plain_is_path c h = plain_or_path (is_reg_name_char set c) (c == colon) (c == at_sign) h

  path_is_plain : (c : ℕ) → is_path_char set c ≡ true → (c == colon) ≡ false → plain_char set c ≡ true
  unfolding is_path_char is_user_info_char
  path_is_plain c h k = path_or_colon (is_reg_name_char set c) (c == colon) (c == at_sign) h k

  pieces_widen : (pieces : List Text) → AllByRecursion (Piece (plain_char set)) pieces → AllByRecursion (Piece (is_path_char set)) pieces
  pieces_widen [] all = tt
  pieces_widen (p ∷ pieces) all = grind (arith, plain_is_path, pieces_widen pieces all.1)

  pieces_narrow : (pieces : List Text) → AllByRecursion (Piece (is_path_char set)) pieces → lacks colon (concat pieces) ≡ true → AllByRecursion (Piece (plain_char set)) pieces
  pieces_narrow [] all h = tt
  pieces_narrow (p ∷ pieces) all h = grind (arith, path_is_plain, pieces_narrow pieces all.1)

  plain_percent : plain_char set percent_sign ≡ false
  plain_percent = λ i. percent_refused set above i || false

  plain_colon : plain_char set colon ≡ false
  plain_colon = λ i. reg_name_refuses set above colon (lit< tt) refl refl i || false

  plain_lacks : (text : Text) → IsEncoded (plain_char set) text → lacks colon text ≡ true
  plain_lacks text z =
      encoded_lacks (plain_char set) colon (record { ascii = lit< tt; alone = plain_colon; percent = refl; digit = refl }) 0 text ((Decides-is_encoded (plain_char set) plain_percent text).1 z)

  plain_bytes : (bytes : Text) → InUtf8 (IsEncoded (plain_char set)) bytes ↔ (InUtf8 (IsSegment set) bytes × (lacks colon bytes ≡ true))
  plain_bytes bytes = grind (arith, pieces_widen, lacks-encoded, plain_lacks, lacks-decoded, pieces_narrow)

  pub in_utf8-non_colon : (bytes : Text) → InUtf8 (IsNonColonSegment set) bytes ↔ (InUtf8 (IsSegment set) bytes × (is_empty bytes ≡ false) × (lacks colon bytes ≡ true))
  in_utf8-non_colon bytes = (
    λ z. let s = (some_bytes (plain_char set) bytes).0 z in let p = (plain_bytes bytes).0 s.0 in (p.0, s.1, p.1),
    λ z. (some_bytes (plain_char set) bytes).1 ((plain_bytes bytes).1 (z.0, z.2), z.1),
  )
