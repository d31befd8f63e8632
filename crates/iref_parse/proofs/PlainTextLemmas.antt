-- The components of a text of plain bytes, escapes and characters beyond ASCII are in their rules.
use Rattle.std.proofs.Common.{List, ◌++◌, ◌≡◌, ℕ, ◌<◌, Bool, true, false, not, ◌&&◌, ◌||◌, [], ◌∷◌, length, take, drop, IsUtf8, refl, sym, ◌∙◌, ap, subst, arith, inl, inr, ⊎_elim, ◌==◌, nat_lt, Option, Some, None, codes, if◌then◌else◌, true≢false}
use Rattle.std.proofs.lemmas.Bool.{agree_below_at, ltb-true, and_parts, not-true, or_cases, or_left, or_right, false_from_ne_true}
use Rattle.std.proofs.{lemmas.Bool.Decides.{eqb_tells, nat_tests}, lemmas.List.{take_all}}
use Rattle.std.specs.Char.{is_ascii, is_ascii_hexdigit, is_ascii_alphanumeric, char_set_contains}
use Rattle.std.specs.List.{list_all, position_or_len}
use Rattle.iref_grammar.specs.{Characters.{CharTests, AreAboveAscii}, Rules.{Text}}
use Rattle.iref_grammar.specs.Grammar.{colon, at_sign, slash, question_mark, hash_sign, percent_sign, is_not_percent, is_sub_delim, is_reg_name_char, is_user_info_char, is_path_char, is_query_char, is_fragment_char}
use Rattle.iref_grammar.specs.Texts.{before, from_first, after, after_first_char, begins_with}
use Rattle.iref_grammar.specs.Tests.{is_reg_name, is_host, is_ip_literal, is_path, is_query, is_fragment, none_or}
use Rattle.iref_grammar.specs.Authority.{is_authority}
use Rattle.iref_grammar.specs.Reference.{is_reference, read_reference, hierarchy, scheme_of, split_scheme, split_authority}
use Rattle.iref_grammar.specs.ComponentTexts.{ComponentTexts, spell_components}
use Rattle.iref_grammar.proofs.{ComponentLemmas.{spelled_as_read}, CutLemmas.{before-from_first}}
use Rattle.iref_grammar.proofs.{ReferenceRuleLemmas.{Decides-is_uri_reference}, SplitLemmas.{begins_with_mark}}
use Rattle.iref_parse.specs.Plain.{is_plain_byte}
use Rattle.iref_parse.specs.Encoded.{is_plain_char, but, is_authority_char, are_encoded, AreEncoded}
use Rattle.iref_parse.specs.AuthoritySlices.{is_port_part}
use Rattle.iref_parse.proofs.AsciiLemmas.{listed, allowed, reg_name_byte, path_byte, fragment_byte}
use Rattle.iref_parse.proofs.AuthorityLemmas.{port_after, slashes}
use Rattle.iref_parse.proofs.EncodedTextLemmas.{IsDelimiter, encoded_wider, encoded_before, encoded_from_first, encoded_past_one}

plain_below : (b : ℕ) → is_plain_byte b ≡ true → b < 128
plain_below b h = ltb-true b 128 ((and_parts _ _ h).0)

-- a plain byte is a character that stands for itself
pub plain_stands_for_itself : (set : CharTests) (c : ℕ) → is_plain_byte c ≡ true → (c < 128) × ((c == percent_sign) ≡ false) × (is_plain_char set c ≡ true)
plain_stands_for_itself set c h =
    let low = plain_below c h in
    let other = (and_parts (is_plain_byte c) (is_not_percent c) (sym (agree_below_at is_plain_byte (λ b. is_plain_byte b && is_not_percent b) 128 c refl low) ∙ h)).1 in
    (low, grind (arith, nat_tests, other), ap (λ b. b || set.extra c) h)

-- ---- the delimiters

abbrev ends_component : ℕ → Bool
ends_component c = nat_lt c 128 && (not (c == percent_sign) && not (is_ascii_hexdigit c))

delimiter : (c : ℕ) → ends_component c ≡ true → IsDelimiter c
delimiter c h =
    let others = (and_parts _ _ h).1 in
    record { low = ltb-true c 128 ((and_parts _ _ h).0); no_percent = not-true _ ((and_parts _ _ others).0); no_digit = not-true _ ((and_parts _ _ others).1) }

delimiters : (marks : List ℕ) → list_all ends_component marks ≡ true → (c : ℕ) → char_set_contains marks c ≡ true → IsDelimiter c
delimiters [] h c e = absurd (true≢false (sym e))
delimiters (m ∷ marks) h c e = elim (eqb_tells m c) [
  | inl f ↦ subst IsDelimiter f.1 (delimiter m ((and_parts _ (list_all ends_component marks) h).0))
  | inr f ↦ delimiters marks ((and_parts (ends_component m) _ h).1) c ((λ i. sym f.0 i || char_set_contains marks c) ∙ e)
]

-- ---- the characters of the rules

module _ (set : CharTests) (above : AreAboveAscii set) where
  extra_reg_name : (c : ℕ) → set.extra c ≡ true → is_reg_name_char set c ≡ true
  unfolding is_reg_name_char
  extra_reg_name c h = or_left _ (is_sub_delim c) (or_right (is_ascii_alphanumeric c || char_set_contains (codes "-._~") c) _ h)

  extra_path : (c : ℕ) → set.extra c ≡ true → is_path_char set c ≡ true
  unfolding is_path_char is_user_info_char
  extra_path c h = ap (λ b. (b || c == colon) || c == at_sign) (extra_reg_name c h)

  extra_fragment : (c : ℕ) → set.extra c ≡ true → is_fragment_char set c ≡ true
  unfolding is_fragment_char
  extra_fragment c h = ap (λ b. b || c == slash || c == question_mark) (extra_path c h)

  -- but those that the delimiters hold
  abbrev without : List ℕ → ℕ → Bool → Bool
  without marks c b = b && not (char_set_contains marks c)

  -- a plain byte is in the rule by the table, and a character of the set in any case
  in_rule : (n : ℕ) (rule : ℕ → Bool) (kept : ℕ → Bool → Bool) → ((b : ℕ) → b < 256 → listed n b ≡ allowed rule b) → ((c : ℕ) (b : Bool) → kept c b ≡ true → b ≡ true)
      → ((c : ℕ) → c < 128 → kept c (is_plain_byte c) ≡ (kept c (is_plain_byte c) && listed n c)) → ((c : ℕ) → set.extra c ≡ true → rule c ≡ true)
      → (c : ℕ) → kept c (is_plain_char set c) ≡ true → rule c ≡ true
  in_rule n rule kept table has agree extra c h = ⊎_elim (λ plain.
      let low = plain_below c plain in
      let k = ap (kept c) (plain ∙ sym (ap (λ b. b || set.extra c) plain)) ∙ h in
      let found = sym (table c (omega arith)) ∙ (and_parts (kept c (is_plain_byte c)) (listed n c) (sym (agree c low) ∙ k)).1 in
      (and_parts (is_not_percent c) (rule c) ((and_parts (is_ascii c) _ found).1)).1)
      (extra c) (or_cases (is_plain_byte c) (set.extra c) (has c _ h))

  path_char : (c : ℕ) → but (question_mark ∷ []) (but (hash_sign ∷ []) (is_plain_char set)) c ≡ true → (is_path_char set c || c == slash) ≡ true
  path_char =
      let p = but (question_mark ∷ []) (but (hash_sign ∷ []) is_plain_byte) in
      in_rule 3 (λ c. is_path_char set c || c == slash) (λ c b. without (question_mark ∷ []) c (without (hash_sign ∷ []) c b)) (path_byte set above)
      (λ c b k. (and_parts _ _ ((and_parts _ _ k).0)).0) (λ c. agree_below_at p (λ b. p b && listed 3 b) 128 c refl) (λ c e. ap (λ b. b || c == slash) (extra_path c e))

  fragment_char : (c : ℕ) → but (hash_sign ∷ []) (is_plain_char set) c ≡ true → is_fragment_char set c ≡ true
  fragment_char =
      let p = but (hash_sign ∷ []) is_plain_byte in
      in_rule 4 (is_fragment_char set) (without (hash_sign ∷ [])) (fragment_byte set above)
      (λ c b k. (and_parts _ _ k).0) (λ c. agree_below_at p (λ b. p b && listed 4 b) 128 c refl) extra_fragment

  query_char : (c : ℕ) → but (hash_sign ∷ []) (is_plain_char set) c ≡ true → is_query_char set c ≡ true
  unfolding is_query_char
  query_char c h = or_left _ (set.private c) (fragment_char c h)

  host_char : (c : ℕ) → but (colon ∷ at_sign ∷ []) (is_authority_char set) c ≡ true → is_reg_name_char set c ≡ true
  host_char =
      let p = but (colon ∷ at_sign ∷ []) (but (slash ∷ []) (but (question_mark ∷ []) (but (hash_sign ∷ []) is_plain_byte))) in
      in_rule 0 (is_reg_name_char set) (λ c b. without (colon ∷ at_sign ∷ []) c (without (slash ∷ []) c (without (question_mark ∷ []) c (without (hash_sign ∷ []) c b)))) (reg_name_byte set above)
      (λ c b k. (and_parts _ _ ((and_parts _ _ ((and_parts _ _ ((and_parts _ _ k).0)).0)).0)).0) (λ c. agree_below_at p (λ b. p b && listed 0 b) 128 c refl) extra_reg_name

  -- ---- the components

  after_encoded : (test : ℕ → Bool) (mark : ℕ) → list_all ends_component (mark ∷ []) ≡ true → (text : Text) → are_encoded test text ≡ true → none_or (are_encoded test) (after mark text) ≡ true
  after_encoded test mark d text h = by (from_first (mark ∷ []) text) refl
    where
      by : (t : Text) → from_first (mark ∷ []) text ≡ t → none_or (are_encoded test) (after_first_char t) ≡ true
      by [] e = refl
      by (c ∷ rest) e =
          encoded_past_one test c rest (delimiters (mark ∷ []) d c (begins_with_mark (mark ∷ []) text c rest e))
          (ap (are_encoded test) (sym e) ∙ encoded_from_first (mark ∷ []) (delimiters (mark ∷ []) d) test text h)

  scheme_rest_encoded : (test : ℕ → Bool) (text : Text) → are_encoded test text ≡ true → are_encoded test (split_scheme text).1 ≡ true
  scheme_rest_encoded test text h = by (after colon text) (after_encoded test colon refl text h)
    where
      by : (o : Option Text) → none_or (are_encoded test) o ≡ true → are_encoded test (scheme_of (before (colon ∷ []) text) o text).1 ≡ true
      by None k = h
      by (Some rest) k = choose (char_set_contains (before (colon ∷ []) text) slash)
        where
          choose : (b : Bool) → are_encoded test (if◌then◌else◌ {A = Option Text × Text} b (None, text) (Some (before (colon ∷ []) text), rest)).1 ≡ true
          choose true = h
          choose false = k

  past_slashes : (test : ℕ → Bool) (text : Text) → begins_with (codes "//") text ≡ true → are_encoded test text ≡ true → are_encoded test (drop 2 text) ≡ true
  past_slashes test text e h =
      let d = delimiter slash refl in
      encoded_past_one test slash (drop 2 text) d (encoded_past_one test slash (slash ∷ drop 2 text) d (ap (are_encoded test) (sym (slashes text e)) ∙ h))

  is_path_text : (text : Text) → are_encoded (but (question_mark ∷ []) (but (hash_sign ∷ []) (is_plain_char set))) text ≡ true → is_path set text ≡ true
  unfolding is_path
  is_path_text = encoded_wider (but (question_mark ∷ []) (but (hash_sign ∷ []) (is_plain_char set))) (λ c. is_path_char set c || c == slash) path_char

  is_query_text : (text : Text) → are_encoded (but (hash_sign ∷ []) (is_plain_char set)) text ≡ true → is_query set text ≡ true
  unfolding is_query
  is_query_text = encoded_wider (but (hash_sign ∷ []) (is_plain_char set)) (is_query_char set) query_char

  some_query : (query : Option Text) → none_or (are_encoded (but (hash_sign ∷ []) (is_plain_char set))) query ≡ true → none_or (is_query set) query ≡ true
  some_query None h = refl
  some_query (Some text) h = is_query_text text h

  record IsHierarchyEncoded (parts : Option Text × Text) : Type 0 where
    authority : none_or (are_encoded (is_authority_char set)) parts.0 ≡ true
    path : is_path set parts.1 ≡ true

  split_authority_encoded : (text : Text) → are_encoded (but (question_mark ∷ []) (but (hash_sign ∷ []) (is_plain_char set))) text ≡ true → IsHierarchyEncoded (split_authority text)
  split_authority_encoded text h = choose (begins_with (codes "//") text) refl
    where
      test : ℕ → Bool
      test = but (question_mark ∷ []) (but (hash_sign ∷ []) (is_plain_char set))

      choose : (b : Bool) → begins_with (codes "//") text ≡ b → IsHierarchyEncoded (if b then (Some (before (slash ∷ []) (drop 2 text)), from_first (slash ∷ []) (drop 2 text)) else (None, text))
      choose true e =
          let rest = past_slashes test text e h in record {
            authority = encoded_before (slash ∷ []) (delimiters (slash ∷ []) refl) test (drop 2 text) rest;
            path = is_path_text _ (encoded_from_first (slash ∷ []) (delimiters (slash ∷ []) refl) test (drop 2 text) rest);
          }
      choose false e = record { authority = refl; path = is_path_text text h }

  cut_as_read : Text → ComponentTexts
  cut_as_read text =
      let front = split_scheme (hierarchy text) in
      let middle = split_authority front.1 in
      record { scheme = front.0; authority = middle.0; path = middle.1; query = after question_mark (before (hash_sign ∷ []) text); fragment = after hash_sign text }

  pub components_of_encoded : (text : Text) → are_encoded (is_plain_char set) text ≡ true → AreEncoded set (spell_components (read_reference text))
  unfolding read_reference cut_as_read
  components_of_encoded text h =
      let queries = encoded_before (hash_sign ∷ []) (delimiters (hash_sign ∷ []) refl) (is_plain_char set) text h in
      let paths = encoded_before (question_mark ∷ []) (delimiters (question_mark ∷ []) refl) (but (hash_sign ∷ []) (is_plain_char set)) (before (hash_sign ∷ []) text) queries in
      let middle = split_authority_encoded (split_scheme (hierarchy text)).1 (scheme_rest_encoded (but (question_mark ∷ []) (but (hash_sign ∷ []) (is_plain_char set))) (hierarchy text) paths) in
      subst (AreEncoded set) (spelled_as_read (cut_as_read text) (read_reference text) refl) (record {
        authority = middle.authority;
        path = middle.path;
        query = some_query (after question_mark (before (hash_sign ∷ []) text)) (after_encoded (but (hash_sign ∷ []) (is_plain_char set)) question_mark refl (before (hash_sign ∷ []) text) queries);
        fragment = after_encoded (is_plain_char set) hash_sign refl text h;
      })

  -- ---- texts without a delimiter

  uncut : (marks : List ℕ) (text : Text) → position_or_len (char_set_contains marks) text ≡ length text → before marks text ≡ text
  uncut marks text e = ap (λ n. take n text) e ∙ take_all (length text) text (omega arith)

  pub encoded_fragment : (text : Text) → are_encoded (is_plain_char set) text ≡ true → position_or_len (char_set_contains (hash_sign ∷ [])) text ≡ length text → is_fragment set text ≡ true
  unfolding is_fragment
  encoded_fragment text h e =
      encoded_wider (but (hash_sign ∷ []) (is_plain_char set)) (is_fragment_char set) fragment_char text
      (ap (are_encoded (but (hash_sign ∷ []) (is_plain_char set))) (sym (uncut (hash_sign ∷ []) text e)) ∙ encoded_before (hash_sign ∷ []) (delimiters (hash_sign ∷ []) refl) (is_plain_char set) text h)

  both_cut : (c : ℕ) → but (question_mark ∷ hash_sign ∷ []) (is_plain_char set) c ≡ true → but (question_mark ∷ []) (but (hash_sign ∷ []) (is_plain_char set)) c ≡ true
  both_cut c h = grind (arith, nat_tests)

  pub encoded_path : (text : Text) → are_encoded (is_plain_char set) text ≡ true → position_or_len (char_set_contains (question_mark ∷ hash_sign ∷ [])) text ≡ length text → is_path set text ≡ true
  encoded_path text h e =
      is_path_text text
      (encoded_wider (but (question_mark ∷ hash_sign ∷ []) (is_plain_char set)) (but (question_mark ∷ []) (but (hash_sign ∷ []) (is_plain_char set))) both_cut text
      (ap (are_encoded (but (question_mark ∷ hash_sign ∷ []) (is_plain_char set))) (sym (uncut (question_mark ∷ hash_sign ∷ []) text e)) ∙ encoded_before (question_mark ∷ hash_sign ∷ []) (delimiters (question_mark ∷ hash_sign ∷ []) refl) (is_plain_char set) text h))

  -- a registered name up to one of the two delimiters, and a port, if any
  pub encoded_authority : (text host end : Text) → are_encoded (is_authority_char set) text ≡ true → host ≡ before (colon ∷ at_sign ∷ []) text → end ≡ from_first (colon ∷ at_sign ∷ []) text
      → is_port_part end ≡ true → is_authority set text ≡ true
  unfolding is_host is_reg_name
  encoded_authority text host end h e f port =
      let front = before (colon ∷ at_sign ∷ []) text in
      let name : is_reg_name set host ≡ true = ap (is_reg_name set) e ∙ encoded_wider (but (colon ∷ at_sign ∷ []) (is_authority_char set)) (is_reg_name_char set) host_char front (encoded_before (colon ∷ at_sign ∷ []) (delimiters (colon ∷ at_sign ∷ []) refl) (is_authority_char set) text h) in
      ap (is_authority set) (sym (before-from_first (colon ∷ at_sign ∷ []) text) ∙ (λ i. sym e i ++ sym f i))
      ∙ port_after set above host end (or_right (is_ip_literal host) (is_reg_name set host) name) port

  -- what is no UTF-8 is no reference
  pub no_reference : (bytes : Text) → (IsUtf8 bytes → ⊥) → false ≡ is_reference set bytes
  no_reference bytes invalid = sym (false_from_ne_true _ (λ e. let z = (Decides-is_uri_reference set above bytes).0 e in invalid (z.0, (z.1, z.2))))
