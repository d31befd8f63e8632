-- A reference holds characters of ASCII and those that the set adds, so its mapping is that of the RFC's words.
use Rattle.std.proofs.Common.{◌≡◌, ℕ, Bool, true, ◌||◌, List, [], ◌∷◌, ◌++◌, refl, sym, ◌∙◌, ap, subst, arith, inl, inr, ◌==◌, chars, codes, encode_utf8_all, Option, Some, None, option_map, IfSome}
use Rattle.std.proofs.{lemmas.Grind.{common_steps}, lemmas.Bool.{eqb-true}, lemmas.Bool.Decides.{nat_tests}}
use Rattle.std.proofs.lemmas.Str.{chars-encodes, encode_ascii}
use Rattle.std.specs.{List.{AllByRecursion, concat, list_all, join_with_byte}, Char.{is_ascii, encode_utf8}}
use Rattle.iref_grammar.specs.{Characters.{CharTests, AreAboveAscii}, Rules.{Text, Rule, OneOf, ZeroOrMore, InUtf8}}
use Rattle.iref_grammar.specs.Grammar.{hash_sign, slash, colon, question_mark, at_sign, is_reg_name_char, is_user_info_char, is_path_char, is_fragment_char, is_query_char, IsEncoded, IsScheme, IsUserInfo, IsRegName, IsHost, IsPort, IsSegment, IsQuery, IsFragment, IsUriReference}
use Rattle.iref_grammar.specs.Texts.{part_then, then_part}
use Rattle.iref_grammar.specs.Authority.{AuthorityValue, HasAuthorityParts, spell_authority}
use Rattle.iref_grammar.specs.{PathValue.{PathValue, spell_path}, Reference.{ReferenceValue, IsReadable, spell}}
use Rattle.iref_grammar.proofs.TextLemmas.{first_of_both, second_of_both}
use Rattle.iref_grammar.proofs.{RuleLemmas.{none_of, one_more, more-append, Decides-ones}, EncodedLemmas.{Piece}}
use Rattle.iref_grammar.proofs.{Utf8RuleLemmas.{in_utf8-more}, HostRuleLemmas.{literal_ascii, ipv4_reg_name}}
use Rattle.iref_grammar.proofs.PartRuleLemmas.{Decides-is_scheme_bytes, Decides-is_port_bytes}
use Rattle.iref_grammar.proofs.ReferenceRuleLemmas.{in_utf8-reference}
use Rattle.iref_grammar.specs.Mapping.{mapped, mapped_char, mapped_chars}
use Rattle.iref_grammar.proofs.MappedLemmas.{mapped-nil, mapped-append, mapped-ascii}
use Rattle.iref_grammar.proofs.MappedCharLemmas.{char_above, mapped-above}
use Rattle.iref_grammar.proofs.MappedRuleLemmas.{low, ascii_in_utf8, pct_encoded_ascii, scheme_ascii, port_ascii}

module _ (set : CharTests) (above : AreAboveAscii set) where
  -- of ASCII, or added by the set
  abbrev pub is_known : ℕ → Bool
  is_known c = is_ascii c || set.extra c || set.private c

  abbrev pub IsKnown : Rule
  IsKnown = ZeroOrMore (OneOf is_known)

  -- ---- the two words agree on known characters

  same_char : (c : ℕ) → is_known c ≡ true → mapped (encode_utf8 c) ≡ mapped_char set c
  same_char c h = grind (arith, common_steps, encode_ascii, low, mapped-ascii, mapped-above, char_above)

  same_chars : (text : Text) → list_all is_known text ≡ true → mapped (encode_utf8_all text) ≡ mapped_chars set text
  unfolding mapped_chars
  same_chars [] h = mapped-nil
  same_chars (c ∷ cs) h = grind (arith, common_steps, mapped-append, same_char, first_of_both, second_of_both, same_chars cs)

  known_bytes : (bytes : Text) → InUtf8 IsKnown bytes → mapped bytes ≡ mapped_chars set (chars bytes)
  known_bytes bytes z =
      ap mapped (sym z.2) ∙ same_chars z.0 ((Decides-ones is_known z.0).1 z.3) ∙ ap (mapped_chars set) (sym (chars-encodes z.0 z.1) ∙ ap chars z.2)

  -- ---- what is known

  known-append : (a b : Text) → InUtf8 IsKnown a → InUtf8 IsKnown b → InUtf8 IsKnown (a ++ b)
  known-append a b h k =
      (in_utf8-more (OneOf is_known) (a ++ b)).1 (more-append (InUtf8 (OneOf is_known)) a b ((in_utf8-more (OneOf is_known) a).0 h) ((in_utf8-more (OneOf is_known) b).0 k))

  ascii_known : (t : Text) → list_all is_ascii t ≡ true → IsKnown t
  ascii_known [] h = none_of (OneOf is_known)
  ascii_known (c ∷ cs) h =
      one_more (OneOf is_known) (c ∷ []) cs (c, (λ i. first_of_both (is_ascii c) (list_all is_ascii cs) h i || set.extra c || set.private c), refl)
      (ascii_known cs (second_of_both (is_ascii c) (list_all is_ascii cs) h))

  known-ascii : (bytes : Text) → list_all is_ascii bytes ≡ true → InUtf8 IsKnown bytes
  known-ascii bytes h = ascii_in_utf8 IsKnown bytes h (ascii_known bytes h)

  known-encoded : (test : ℕ → Bool) → ((c : ℕ) → test c ≡ true → is_known c ≡ true) → (bytes : Text) → InUtf8 (IsEncoded test) bytes → InUtf8 IsKnown bytes
  known-encoded test known bytes z = (z.0, z.1, z.2, subst IsKnown z.3.2 (by z.3.0 z.3.1))
    where
      one : (p : Text) → Piece test p → IsKnown p
      one p (inl c) = subst IsKnown (sym c.2) (one_more (OneOf is_known) (c.0 ∷ []) [] (c.0, known c.0 c.1, refl) (none_of (OneOf is_known)))
      one p (inr esc) = ascii_known p (pct_encoded_ascii p esc)

      by : (pieces : List Text) → AllByRecursion (Piece test) pieces → IsKnown (concat pieces)
      by [] all = none_of (OneOf is_known)
      by (p ∷ pieces) all = more-append (OneOf is_known) p (concat pieces) (one p all.0) (by pieces all.1)

  -- ---- the characters of the rules

  pub reg_name_known : (c : ℕ) → is_reg_name_char set c ≡ true → is_known c ≡ true
  unfolding is_reg_name_char
  reg_name_known c h = grind (arith, nat_tests)

  or_known : (a : Bool) (c mark : ℕ) → is_ascii mark ≡ true → (a ≡ true → is_known c ≡ true) → (a || c == mark) ≡ true → is_known c ≡ true
  or_known a c mark low f h = grind (arith, eqb-true)

  pub user_info_known : (c : ℕ) → is_user_info_char set c ≡ true → is_known c ≡ true
  unfolding is_user_info_char
  user_info_known c = or_known (is_reg_name_char set c) c colon refl (reg_name_known c)

  pub path_known : (c : ℕ) → is_path_char set c ≡ true → is_known c ≡ true
  unfolding is_path_char
  path_known c = or_known (is_user_info_char set c) c at_sign refl (user_info_known c)

  pub fragment_known : (c : ℕ) → is_fragment_char set c ≡ true → is_known c ≡ true
  unfolding is_fragment_char
  fragment_known c = or_known (is_path_char set c || c == slash) c question_mark refl (or_known (is_path_char set c) c slash refl (path_known c))

  pub query_known : (c : ℕ) → is_query_char set c ≡ true → is_known c ≡ true
  unfolding is_query_char
  query_known c h = grind (arith, common_steps, fragment_known)

  -- ---- the components

  host_known : (bytes : Text) → InUtf8 (IsHost set) bytes → InUtf8 IsKnown bytes
  host_known bytes z = by z.3
    where
      of_name : IsRegName set z.0 → InUtf8 IsKnown bytes
      of_name r = known-encoded (is_reg_name_char set) reg_name_known bytes (z.0, z.1, z.2, r)

      by : IsHost set z.0 → InUtf8 IsKnown bytes
      by (inl l) = (z.0, z.1, z.2, ascii_known z.0 (literal_ascii z.0 l))
      by (inr (inl v)) = of_name (ipv4_reg_name set above z.0 v)
      by (inr (inr r)) = of_name r

  part_then_known : (P : Text → Type 0) (mark : Text) → list_all is_ascii mark ≡ true → ((t : Text) → P t → InUtf8 IsKnown t) → (o : Option Text) → IfSome o P → InUtf8 IsKnown (part_then mark o)
  part_then_known P mark low f None h = known-ascii [] refl
  part_then_known P mark low f (Some t) h = known-append t mark (f t h) (known-ascii mark low)

  then_part_known : (P : Text → Type 0) (mark : Text) → list_all is_ascii mark ≡ true → ((t : Text) → P t → InUtf8 IsKnown t) → (o : Option Text) → IfSome o P → InUtf8 IsKnown (then_part mark o)
  then_part_known P mark low f None h = known-ascii [] refl
  then_part_known P mark low f (Some t) h = known-append mark t (known-ascii mark low) (f t h)

  scheme_known : (t : Text) → InUtf8 IsScheme t → InUtf8 IsKnown t
  scheme_known t z = known-ascii t (scheme_ascii t ((Decides-is_scheme_bytes t).1 z))

  port_known : (t : Text) → InUtf8 IsPort t → InUtf8 IsKnown t
  port_known t z = known-ascii t (port_ascii t ((Decides-is_port_bytes t).1 z))

  authority_known : (o : Option AuthorityValue) → IfSome o (HasAuthorityParts set) → InUtf8 IsKnown (then_part (codes "//") (option_map spell_authority o))
  unfolding spell_authority
  authority_known None h = known-ascii [] refl
  authority_known (Some a) h =
      known-append (codes "//") (spell_authority a) (known-ascii (codes "//") refl)
      (known-append (part_then (at_sign ∷ []) a.user_info ++ a.host) (then_part (colon ∷ []) a.port)
      (known-append (part_then (at_sign ∷ []) a.user_info) a.host
      (part_then_known (InUtf8 (IsUserInfo set)) (at_sign ∷ []) refl (known-encoded (is_user_info_char set) user_info_known) a.user_info h.user_info) (host_known a.host h.host))
      (then_part_known (InUtf8 IsPort) (colon ∷ []) refl port_known a.port h.port))

  segments_known : (ss : List Text) → AllByRecursion (InUtf8 (IsSegment set)) ss → InUtf8 IsKnown (join_with_byte slash ss)
  segments_known [] all = known-ascii [] refl
  segments_known (s ∷ []) all = known-encoded (is_path_char set) path_known s all.0
  segments_known (s ∷ t ∷ ss) all =
      known-append s (slash ∷ join_with_byte slash (t ∷ ss)) (known-encoded (is_path_char set) path_known s all.0)
      (known-append (slash ∷ []) (join_with_byte slash (t ∷ ss)) (known-ascii (slash ∷ []) refl) (segments_known (t ∷ ss) all.1))

  path_text_known : (p : PathValue) → AllByRecursion (InUtf8 (IsSegment set)) p.segments → InUtf8 IsKnown (spell_path p)
  unfolding spell_path
  path_text_known p all = grind (arith, common_steps, known-append, known-ascii, segments_known)

  reference_known : (r : ReferenceValue) → IsReadable set r → InUtf8 IsKnown (spell r)
  unfolding spell
  reference_known r v =
      known-append _ (then_part (hash_sign ∷ []) r.fragment)
      (known-append _ (then_part (question_mark ∷ []) r.query)
      (known-append _ (spell_path r.path)
      (known-append (part_then (colon ∷ []) r.scheme) (then_part (codes "//") (option_map spell_authority r.authority))
      (part_then_known (InUtf8 IsScheme) (colon ∷ []) refl scheme_known r.scheme v.scheme) (authority_known r.authority v.authority))
      (path_text_known r.path v.segments))
      (then_part_known (InUtf8 (IsQuery set)) (question_mark ∷ []) refl (known-encoded (is_query_char set) query_known) r.query v.query))
      (then_part_known (InUtf8 (IsFragment set)) (hash_sign ∷ []) refl (known-encoded (is_fragment_char set) fragment_known) r.fragment v.fragment)

  pub known_reference : (bytes : Text) → InUtf8 (IsUriReference set) bytes → InUtf8 IsKnown bytes
  known_reference bytes h =
      let z = (in_utf8-reference set above bytes).0 h in
      subst (InUtf8 IsKnown) z.2 (reference_known z.0 z.1)

  -- a reference is mapped character by character
  pub mapped-characters : (bytes : Text) → InUtf8 (IsUriReference set) bytes → mapped bytes ≡ mapped_chars set (chars bytes)
  mapped-characters bytes h = known_bytes bytes (known_reference bytes h)
