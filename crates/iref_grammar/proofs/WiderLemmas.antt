-- What is in a grammar is in each with more characters.
use Rattle.std.proofs.Common.{arith, ◌≡◌, ℕ, Bool, true, false, ◌||◌, List, [], ◌∷◌, refl, sym, inl, inr, ◌==◌, codes, true≢false}
use Rattle.std.proofs.{lemmas.Option.{IfSome_then}, lemmas.Bool.{or_right}}
use Rattle.std.specs.{List.{AllByRecursion}, Char.{is_ascii_alphanumeric, char_set_contains}}
use Rattle.iref_grammar.specs.{Characters.{CharTests, AreAboveAscii, uri_chars, uri_above_ascii}, Rules.{Text, InUtf8}}
use Rattle.iref_grammar.specs.Grammar.{colon, at_sign, is_unreserved, is_sub_delim, is_reg_name_char, is_user_info_char, is_path_char, is_fragment_char, is_query_char, IsEncoded, IsHost, IsSegment}
use Rattle.iref_grammar.specs.Authority.{AuthorityValue, HasAuthorityParts}
use Rattle.iref_grammar.specs.Reference.{ReferenceValue, IsReadable, read_reference, is_reference}
use Rattle.iref_grammar.proofs.{RuleLemmas.{more_like}, EncodedLemmas.{Piece}}
use Rattle.iref_grammar.proofs.ReferenceRuleLemmas.{Decides-is_readable}

-- each character of the one set is in the other
pub record IsWider (small large : CharTests) : Type 0 where
  pub extra : (c : ℕ) → small.extra c ≡ true → large.extra c ≡ true
  pub private : (c : ℕ) → small.private c ≡ true → large.private c ≡ true

or_wider : (a b c d : Bool) → (a ≡ true → c ≡ true) → (b ≡ true → d ≡ true) → (a || b) ≡ true → (c || d) ≡ true
or_wider true b c d f g h = λ i. f refl i || d
or_wider false b c d f g h = or_right c d (g h)

-- text of characters and escapes
pub encoded_wider : (test wide : ℕ → Bool) → ((c : ℕ) → test c ≡ true → wide c ≡ true) → (bytes : Text) → InUtf8 (IsEncoded test) bytes → InUtf8 (IsEncoded wide) bytes
encoded_wider test wide w bytes z = (z.0, z.1, z.2, more_like (Piece test) (Piece wide) by z.0 z.3)
  where
    by : (p : Text) → Piece test p → Piece wide p
    by p (inl one) = inl (one.0, w one.0 one.1, one.2)
    by p (inr esc) = inr esc

module _ (small large : CharTests) (w : IsWider small large) where
  -- ---- the characters

  reg_name_wider : (c : ℕ) → is_reg_name_char small c ≡ true → is_reg_name_char large c ≡ true
  unfolding is_reg_name_char
  reg_name_wider c =
      let plain = is_ascii_alphanumeric c || char_set_contains (codes "-._~") c in
      or_wider (is_unreserved small c) (is_sub_delim c) (is_unreserved large c) (is_sub_delim c) (or_wider plain (small.extra c) plain (large.extra c) (λ h. h) (w.extra c)) (λ h. h)

  pub user_info_wider : (c : ℕ) → is_user_info_char small c ≡ true → is_user_info_char large c ≡ true
  unfolding is_user_info_char
  user_info_wider c = or_wider (is_reg_name_char small c) (c == colon) (is_reg_name_char large c) (c == colon) (reg_name_wider c) (λ h. h)

  pub path_wider : (c : ℕ) → is_path_char small c ≡ true → is_path_char large c ≡ true
  unfolding is_path_char
  path_wider c = or_wider (is_user_info_char small c) (c == at_sign) (is_user_info_char large c) (c == at_sign) (user_info_wider c) (λ h. h)

  pub fragment_wider : (c : ℕ) → is_fragment_char small c ≡ true → is_fragment_char large c ≡ true
  unfolding is_fragment_char
  fragment_wider c = grind (arith, path_wider)

  pub query_wider : (c : ℕ) → is_query_char small c ≡ true → is_query_char large c ≡ true
  unfolding is_query_char
  query_wider c = or_wider (is_fragment_char small c) (small.private c) (is_fragment_char large c) (large.private c) (fragment_wider c) (w.private c)

  -- ---- the components

  pub host_wider : (bytes : Text) → InUtf8 (IsHost small) bytes → InUtf8 (IsHost large) bytes
  host_wider bytes z = by z.3
    where
      by : IsHost small z.0 → InUtf8 (IsHost large) bytes
      by (inl l) = (z.0, z.1, z.2, inl l)
      by (inr (inl v)) = (z.0, z.1, z.2, inr (inl v))
      by (inr (inr r)) = let u = encoded_wider (is_reg_name_char small) (is_reg_name_char large) reg_name_wider bytes (z.0, z.1, z.2, r) in (u.0, u.1, u.2, inr (inr u.3))

  pub authority_wider : (a : AuthorityValue) → HasAuthorityParts small a → HasAuthorityParts large a
  authority_wider a p = record {
    user_info = IfSome_then a.user_info p.user_info (encoded_wider (is_user_info_char small) (is_user_info_char large) user_info_wider);
    host = host_wider a.host p.host;
    port = p.port;
  }

  segments_wider : (ss : List Text) → AllByRecursion (InUtf8 (IsSegment small)) ss → AllByRecursion (InUtf8 (IsSegment large)) ss
  segments_wider [] all = tt
  segments_wider (s ∷ ss) all = (encoded_wider (is_path_char small) (is_path_char large) path_wider s all.0, segments_wider ss all.1)

  -- ---- the whole

  pub readable_wider : (r : ReferenceValue) → IsReadable small r → IsReadable large r
  readable_wider r v = record {
    scheme = v.scheme;
    authority = IfSome_then r.authority v.authority authority_wider;
    segments = segments_wider r.path.segments v.segments;
    query = IfSome_then r.query v.query (encoded_wider (is_query_char small) (is_query_char large) query_wider);
    fragment = IfSome_then r.fragment v.fragment (encoded_wider (is_fragment_char small) (is_fragment_char large) fragment_wider);
    follows_authority = v.follows_authority;
    reads_as_path = v.reads_as_path;
  }

  pub reference_wider : AreAboveAscii small → AreAboveAscii large → (bytes : Text) → is_reference small bytes ≡ true → is_reference large bytes ≡ true
  unfolding Rattle.iref_grammar.specs.Reference.is_readable is_reference
  reference_wider low high bytes h = (Decides-is_readable large high (read_reference bytes)).1 (readable_wider (read_reference bytes) ((Decides-is_readable small low (read_reference bytes)).0 h))

-- every set is wider than that of URIs
pub wider_than_uri : (set : CharTests) → IsWider uri_chars set
wider_than_uri set = record { extra = λ c h. absurd (true≢false (sym h)); private = λ c h. absurd (true≢false (sym h)) }

-- a URI is in each grammar, as the same components
pub uri_readable : (set : CharTests) (r : ReferenceValue) → IsReadable uri_chars r → IsReadable set r
uri_readable set = readable_wider uri_chars set (wider_than_uri set)

pub uri_reference : (set : CharTests) → AreAboveAscii set → (bytes : Text) → is_reference uri_chars bytes ≡ true → is_reference set bytes ≡ true
uri_reference set above = reference_wider uri_chars set (wider_than_uri set) uri_above_ascii above
