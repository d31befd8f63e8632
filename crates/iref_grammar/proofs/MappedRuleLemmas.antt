-- The mapping of a text in a rule of IRIs is in the rule of URIs.
use Rattle.std.proofs.Common.{◌≡◌, ℕ, ◌/◌, ◌%◌, ◌<◌, Bool, true, false, ◌||◌, List, [], ◌∷◌, map, refl, sym, ◌∙◌, ap, subst, arith, inl, inr, ◌==◌, encode_utf8_all, Option, Some, None, option_map, IfSome}
use Rattle.std.proofs.{lemmas.Grind.{common_steps}, lemmas.Bool.{and_from}, lemmas.Bool.Decides.{nat_tests}}
use Rattle.std.proofs.{lemmas.List.{append-nil}, lemmas.Str.{encode_ascii}}
use Rattle.std.specs.List.{AllByRecursion, concat, list_all, flat_map}
use Rattle.std.specs.{Char.{is_ascii, is_ascii_alphabetic, is_ascii_digit, encode_utf8}, Fmt.{digit_glyph}}
use Rattle.iref_grammar.proofs.MappedMarkLemmas.{glyph_hex}
use Rattle.iref_grammar.proofs.MappedLemmas.{mapped-nil, mapped-append, mapped-ascii, escape_ascii}
use Rattle.iref_grammar.proofs.MappedMarkLemmas.{context_of-mapped, follows_authority-mapped, reads_as_path-mapped}
use Rattle.iref_grammar.proofs.MappedCharLemmas.{char_above, mapped-above}
use Rattle.percent_encoding.specs.Percent.{percent_sign, percent_encode_byte}
use Rattle.iref_grammar.specs.{Rules.{Text, Rule, ZeroOrMore, InUtf8}, Characters.{CharTests, AreAboveAscii, uri_chars}}
use Rattle.iref_grammar.specs.Grammar.{colon, at_sign, is_reg_name_char, is_user_info_char, is_path_char, is_fragment_char, is_query_char, is_scheme_char, IsPctEncoded, IsEncoded, IsScheme, IsUserInfo, IsRegName, IsIpLiteral, IsHost, IsPort, IsSegment, IsQuery, IsFragment}
use Rattle.iref_grammar.specs.{Tests.{is_scheme, is_port}, Authority.{AuthorityValue, HasAuthorityParts}}
use Rattle.iref_grammar.specs.Contexts.{follows_authority, reads_as_path}
use Rattle.iref_grammar.specs.Reference.{ReferenceValue, IsReadable, context_of}
use Rattle.iref_grammar.proofs.TextLemmas.{first_of_both, second_of_both}
use Rattle.iref_grammar.proofs.HostRuleLemmas.{literal_ascii, ipv4_reg_name}
use Rattle.iref_grammar.proofs.PartRuleLemmas.{Decides-is_scheme_bytes, Decides-is_port_bytes}
use Rattle.iref_grammar.proofs.{RuleLemmas.{none_of, one_more, more-append}, EncodedLemmas.{Piece}}
use Rattle.iref_grammar.proofs.Utf8RuleLemmas.{in_utf8-more, in_utf8-ascii}
use Rattle.iref_grammar.specs.Mapping.{mapped, mapped_authority, mapped_path, mapped_reference}

-- an ASCII text in a rule is in it as bytes
pub ascii_in_utf8 : (A : Rule) (t : Text) → list_all is_ascii t ≡ true → A t → InUtf8 A t
ascii_in_utf8 A t h a =
    let z = (in_utf8-ascii (λ u. u ≡ t) (λ u e. ap (list_all is_ascii) e ∙ h) t).1 refl in
    (z.0, z.1, z.2, subst A (sym z.3) a)

-- bytes in a rule of ASCII alone stay
pub mapped-ascii_rule : (A : Rule) → ((t : Text) → A t → list_all is_ascii t ≡ true) → (bytes : Text) → InUtf8 A bytes → mapped bytes ≡ bytes
mapped-ascii_rule A ascii bytes z = mapped-ascii bytes (ascii bytes ((in_utf8-ascii A ascii bytes).0 z))

-- ---- escapes

is_pct_encoded-escape : (b : ℕ) → IsPctEncoded (percent_encode_byte b)
unfolding percent_encode_byte
is_pct_encoded-escape b =
    let h = digit_glyph true (b / 16 % 16) in
    let l = digit_glyph true (b % 16) in
    (percent_sign ∷ [], h ∷ l ∷ [], refl, (h ∷ [], l ∷ [], (h, glyph_hex (b / 16 % 16) (omega arith), refl), (l, glyph_hex (b % 16) (omega arith), refl), refl), refl)

pub pct_encoded_ascii : (t : Text) → IsPctEncoded t → list_all is_ascii t ≡ true
pct_encoded_ascii t z = grind (arith, common_steps)

pub low : (c : ℕ) → is_ascii c ≡ true → c < 128
low c h = grind (arith, nat_tests)

-- ---- texts of characters and escapes, where the ASCII characters of the one test pass the other

module _ (test narrow : ℕ → Bool) (keeps : (c : ℕ) → is_ascii c ≡ true → test c ≡ true → narrow c ≡ true) where
  abbrev Pieces : Rule
  Pieces = ZeroOrMore (InUtf8 (Piece narrow))

  one_piece : (p : Text) → InUtf8 (Piece narrow) p → Pieces p
  one_piece p z = subst Pieces (append-nil p) (one_more (InUtf8 (Piece narrow)) p [] z (none_of (InUtf8 (Piece narrow))))

  escapes : (bytes : Text) → Pieces (flat_map percent_encode_byte bytes)
  escapes [] = none_of (InUtf8 (Piece narrow))
  escapes (b ∷ bs) =
      one_more (InUtf8 (Piece narrow)) (percent_encode_byte b) (flat_map percent_encode_byte bs)
      (ascii_in_utf8 (Piece narrow) (percent_encode_byte b) (escape_ascii b) (inr (is_pct_encoded-escape b))) (escapes bs)

  mapped_char_piece : (c : ℕ) → test c ≡ true → Pieces (mapped (encode_utf8 c))
  mapped_char_piece c h = by (is_ascii c) refl
    where
      by : (low : Bool) → is_ascii c ≡ low → Pieces (mapped (encode_utf8 c))
      by false e = subst Pieces (sym (mapped-above (encode_utf8 c) (char_above c e))) (escapes (encode_utf8 c))
      by true e =
          let alone : list_all is_ascii (c ∷ []) ≡ true = and_from (is_ascii c) true e refl in
          subst Pieces (sym (ap mapped (encode_ascii c (low c e)) ∙ mapped-ascii (c ∷ []) alone))
          (one_piece (c ∷ []) (ascii_in_utf8 (Piece narrow) (c ∷ []) alone (inl (c, keeps c e h, refl))))

  mapped_piece : (p : Text) → InUtf8 (Piece test) p → Pieces (mapped p)
  mapped_piece p z = by z.3
    where
      by : Piece test z.0 → Pieces (mapped p)
      by (inl one) = subst (λ t. Pieces (mapped t)) (sym (append-nil (encode_utf8 one.0)) ∙ ap encode_utf8_all (sym one.2) ∙ z.2) (mapped_char_piece one.0 one.1)
      by (inr esc) = subst Pieces (sym (mapped-ascii_rule IsPctEncoded pct_encoded_ascii p (z.0, z.1, z.2, esc))) (one_piece p (z.0, z.1, z.2, inr esc))

  mapped_pieces : (pieces : List Text) → AllByRecursion (InUtf8 (Piece test)) pieces → Pieces (mapped (concat pieces))
  mapped_pieces [] all = subst Pieces (sym mapped-nil) (none_of (InUtf8 (Piece narrow)))
  mapped_pieces (p ∷ pieces) all =
      subst Pieces (sym (mapped-append p (concat pieces))) (more-append (InUtf8 (Piece narrow)) (mapped p) (mapped (concat pieces)) (mapped_piece p all.0) (mapped_pieces pieces all.1))

  pub mapped_encoded : (bytes : Text) → InUtf8 (IsEncoded test) bytes → InUtf8 (IsEncoded narrow) (mapped bytes)
  mapped_encoded bytes z =
      let pieces = (in_utf8-more (Piece test) bytes).0 z in
      (in_utf8-more (Piece narrow) (mapped bytes)).1 (subst (λ t. Pieces (mapped t)) pieces.2 (mapped_pieces pieces.0 pieces.1))

-- ---- the characters of the rules

or_keeps : (a b c : Bool) → (a ≡ true → b ≡ true) → (a || c) ≡ true → (b || c) ≡ true
or_keeps a b c f h = grind arith

pub IfSome_mapped : {A B : Type 0} (P : A → Type 0) (Q : B → Type 0) (f : A → B) → ((x : A) → P x → Q (f x)) → (o : Option A) → IfSome o P → IfSome (option_map f o) Q
IfSome_mapped P Q f g None h = tt
IfSome_mapped P Q f g (Some x) h = g x h

-- what a function leaves as it is, where it may be absent
pub stays_option : {A : Type 0} (P : A → Type 0) (f : A → A) → ((x : A) → P x → f x ≡ x) → (o : Option A) → IfSome o P → option_map f o ≡ o
stays_option P f same None h = refl
stays_option P f same (Some x) h = ap (λ y. Some y) (same x h)

-- schemes and ports are ASCII
all_ascii : (test : ℕ → Bool) → ((c : ℕ) → test c ≡ true → is_ascii c ≡ true) → (text : Text) → list_all test text ≡ true → list_all is_ascii text ≡ true
all_ascii test low [] h = refl
all_ascii test low (c ∷ cs) h =
    and_from (is_ascii c) (list_all is_ascii cs) (low c (first_of_both (test c) (list_all test cs) h)) (all_ascii test low cs (second_of_both (test c) (list_all test cs) h))

letter_ascii : (c : ℕ) → is_ascii_alphabetic c ≡ true → is_ascii c ≡ true
letter_ascii c h = grind (arith, nat_tests)

scheme_char_ascii : (c : ℕ) → is_scheme_char c ≡ true → is_ascii c ≡ true
scheme_char_ascii c h = grind (arith, nat_tests)

digit_ascii : (c : ℕ) → is_ascii_digit c ≡ true → is_ascii c ≡ true
digit_ascii c h = grind (arith, nat_tests)

pub scheme_ascii : (text : Text) → is_scheme text ≡ true → list_all is_ascii text ≡ true
unfolding is_scheme
scheme_ascii [] h = refl
scheme_ascii (c ∷ cs) h = grind (arith, common_steps, letter_ascii, first_of_both, all_ascii, scheme_char_ascii)

pub port_ascii : (text : Text) → is_port text ≡ true → list_all is_ascii text ≡ true
unfolding is_port
port_ascii text h = all_ascii is_ascii_digit digit_ascii text h

pub mapped-scheme : (bytes : Text) → InUtf8 IsScheme bytes → mapped bytes ≡ bytes
mapped-scheme bytes z = mapped-ascii bytes (scheme_ascii bytes ((Decides-is_scheme_bytes bytes).1 z))

pub mapped-port : (bytes : Text) → InUtf8 IsPort bytes → mapped bytes ≡ bytes
mapped-port bytes z = mapped-ascii bytes (port_ascii bytes ((Decides-is_port_bytes bytes).1 z))

module _ (set : CharTests) (above : AreAboveAscii set) where
  reg_name_keeps : (c : ℕ) → is_ascii c ≡ true → is_reg_name_char set c ≡ true → is_reg_name_char uri_chars c ≡ true
  unfolding is_reg_name_char
  reg_name_keeps c a h = grind (arith, common_steps)

  user_info_keeps : (c : ℕ) → is_ascii c ≡ true → is_user_info_char set c ≡ true → is_user_info_char uri_chars c ≡ true
  unfolding is_user_info_char
  user_info_keeps c a = or_keeps (is_reg_name_char set c) (is_reg_name_char uri_chars c) (c == colon) (reg_name_keeps c a)

  path_keeps : (c : ℕ) → is_ascii c ≡ true → is_path_char set c ≡ true → is_path_char uri_chars c ≡ true
  unfolding is_path_char
  path_keeps c a = or_keeps (is_user_info_char set c) (is_user_info_char uri_chars c) (c == at_sign) (user_info_keeps c a)

  fragment_keeps : (c : ℕ) → is_ascii c ≡ true → is_fragment_char set c ≡ true → is_fragment_char uri_chars c ≡ true
  unfolding is_fragment_char
  fragment_keeps c a = grind (arith, common_steps, or_keeps, path_keeps)

  query_keeps : (c : ℕ) → is_ascii c ≡ true → is_query_char set c ≡ true → is_query_char uri_chars c ≡ true
  unfolding is_query_char
  query_keeps c a h = grind (arith, common_steps, or_keeps, fragment_keeps)

  -- ---- the components

  host_mapped : (bytes : Text) → InUtf8 (IsHost set) bytes → InUtf8 (IsHost uri_chars) (mapped bytes)
  host_mapped bytes z = by z.3
    where
      of_name : IsRegName set z.0 → InUtf8 (IsHost uri_chars) (mapped bytes)
      of_name r = let u = mapped_encoded (is_reg_name_char set) (is_reg_name_char uri_chars) reg_name_keeps bytes (z.0, z.1, z.2, r) in (u.0, u.1, u.2, inr (inr u.3))

      by : IsHost set z.0 → InUtf8 (IsHost uri_chars) (mapped bytes)
      by (inl l) = subst (InUtf8 (IsHost uri_chars)) (sym (mapped-ascii_rule IsIpLiteral literal_ascii bytes (z.0, z.1, z.2, l))) (z.0, z.1, z.2, inl l)
      by (inr (inl v)) = of_name (ipv4_reg_name set above z.0 v)
      by (inr (inr r)) = of_name r

  authority_mapped : (a : AuthorityValue) → HasAuthorityParts set a → HasAuthorityParts uri_chars (mapped_authority a)
  authority_mapped a p = record {
    user_info = IfSome_mapped (InUtf8 (IsUserInfo set)) (InUtf8 (IsUserInfo uri_chars)) mapped (mapped_encoded (is_user_info_char set) (is_user_info_char uri_chars) user_info_keeps) a.user_info p.user_info;
    host = host_mapped a.host p.host;
    port = IfSome_mapped (InUtf8 IsPort) (InUtf8 IsPort) mapped (λ t z. subst (InUtf8 IsPort) (sym (mapped-port t z)) z) a.port p.port;
  }

  segments_mapped : (ss : List Text) → AllByRecursion (InUtf8 (IsSegment set)) ss → AllByRecursion (InUtf8 (IsSegment uri_chars)) (map mapped ss)
  segments_mapped [] all = tt
  segments_mapped (s ∷ ss) all = (mapped_encoded (is_path_char set) (is_path_char uri_chars) path_keeps s all.0, segments_mapped ss all.1)

  -- the mapping of what is readable is readable as a URI
  pub readable_mapped : (r : ReferenceValue) → IsReadable set r → IsReadable uri_chars (mapped_reference r)
  readable_mapped r v = record {
    scheme = IfSome_mapped (InUtf8 IsScheme) (InUtf8 IsScheme) mapped (λ t z. subst (InUtf8 IsScheme) (sym (mapped-scheme t z)) z) r.scheme v.scheme;
    authority = IfSome_mapped (HasAuthorityParts set) (HasAuthorityParts uri_chars) mapped_authority authority_mapped r.authority v.authority;
    segments = segments_mapped r.path.segments v.segments;
    query = IfSome_mapped (InUtf8 (IsQuery set)) (InUtf8 (IsQuery uri_chars)) mapped (mapped_encoded (is_query_char set) (is_query_char uri_chars) query_keeps) r.query v.query;
    fragment = IfSome_mapped (InUtf8 (IsFragment set)) (InUtf8 (IsFragment uri_chars)) mapped (mapped_encoded (is_fragment_char set) (is_fragment_char uri_chars) fragment_keeps) r.fragment v.fragment;
    follows_authority = ap (λ context. follows_authority context (mapped_path r.path)) (context_of-mapped r) ∙ follows_authority-mapped (context_of r) r.path ∙ v.follows_authority;
    reads_as_path = ap (λ context. reads_as_path context (mapped_path r.path)) (context_of-mapped r) ∙ reads_as_path-mapped (context_of r) r.path ∙ v.reads_as_path;
  }
