-- Canonical references: they are readable, and the key of each is the key that it was made of.
use Rattle.std.proofs.Common.{◌≡◌, Bool, true, false, All, List, [], ◌∷◌, map, refl, sym, ◌∙◌, ap, subst, arith, Option, Some, None, option_map, IfSome, is_some, true≢false}
use Rattle.std.specs.{List.{AllByRecursion}, Str.{str_to_ascii_lowercase}}
use Rattle.percent_encoding.specs.Percent.{percent_decode}
use Rattle.percent_encoding.proofs.PercentLemmas.{IsByte, All-percent_decode}
use Rattle.iref_grammar.specs.declared.context.PathContext.{PathContext}
use Rattle.iref_grammar.specs.Characters.{CharTests, AreAboveAscii, uri_chars, uri_above_ascii}
use Rattle.iref_grammar.specs.Rules.{Text, Rule, InUtf8}
use Rattle.iref_grammar.specs.Grammar.{IsUserInfo, IsHost, IsPort, IsSegment, IsQuery, IsFragment, is_query_char, is_fragment_char}
use Rattle.iref_grammar.specs.Tests.{none_or, is_scheme, is_port, is_segment, is_query, is_fragment}
use Rattle.iref_grammar.specs.Authority.{AuthorityValue, HasAuthorityParts, has_authority_parts}
use Rattle.iref_grammar.specs.{PathValue.{PathValue, is_one_empty}, Contexts.{follows_authority}}
use Rattle.iref_grammar.specs.Reference.{ReferenceValue, IsReadable, context_of, is_readable}
use Rattle.iref_grammar.proofs.LeafLemmas.{Decides-is_segment, Decides-is_query, Decides-is_fragment}
use Rattle.iref_grammar.proofs.PartRuleLemmas.{Decides-none_or, Decides-all, Decides-is_port_bytes}
use Rattle.iref_grammar.proofs.{ReadablePartsLemmas.{readable_parts}, ReferenceRuleLemmas.{Decides-is_readable}}
use Rattle.iref_grammar.specs.AuthorityKey.{authority_key}
use Rattle.iref_grammar.specs.NormalList.{normal_segments, without_lone_empty, excess, staying_names}
use Rattle.iref_grammar.specs.{PathKey.{path_key}, Key.{key}}
use Rattle.iref_grammar.proofs.{ComparisonLemmas.{lone_equal}, NormalGrammarLemmas.{takes_dots}}
use Rattle.iref_grammar.proofs.{ReferenceStepLemmas.{guarded_reference-readable}, SettledLemmas.{lone-normal}}
use Rattle.iref_grammar.proofs.{StepSegmentLemmas.{normal-in}, MappedCharLemmas.{utf8_bytes}}
use Rattle.iref_grammar.proofs.{MappedMarkLemmas.{is_some-map}, MappedRuleLemmas.{IfSome_mapped}}
use Rattle.iref_canonical.specs.Canonical.{encoded, canonical_authority, canonical_parts, canonical, spelled}
use Rattle.iref_canonical.proofs.{EncodedTextLemmas.{encoded-in}, PlainCharacterLemmas.{plain_query, plain_fragment}}
use Rattle.iref_canonical.proofs.CanonicalPathLemmas.{AreBytes, canonical_items-in, path_key-canonical}
use Rattle.iref_canonical.proofs.CanonicalPartLemmas.{lower_scheme, lower_case_again, option-decoded, none_or-map, IsAuthorityKey, authority_key-canonical, has_parts-canonical}

-- what the key of a readable reference is
pub record IsKey (k : ReferenceValue) : Type 0 where
  pub scheme : none_or is_scheme k.scheme ≡ true
  pub lower : option_map str_to_ascii_lowercase k.scheme ≡ k.scheme
  pub authority : IfSome k.authority IsAuthorityKey
  pub items : AreBytes k.path.segments
  pub some : is_one_empty k.path.segments ≡ false
  pub follows : follows_authority (context_of k) k.path ≡ true
  pub query : IfSome k.query (All IsByte)
  pub fragment : IfSome k.fragment (All IsByte)

-- ---- from a key

is_query-encoded : (bytes : Text) → is_query uri_chars (encoded (is_query_char uri_chars) bytes) ≡ true
is_query-encoded bytes = (Decides-is_query uri_chars uri_above_ascii (encoded (is_query_char uri_chars) bytes)).1 (encoded-in (is_query_char uri_chars) plain_query bytes)

is_fragment-encoded : (bytes : Text) → is_fragment uri_chars (encoded (is_fragment_char uri_chars) bytes) ≡ true
is_fragment-encoded bytes =
    (Decides-is_fragment uri_chars uri_above_ascii (encoded (is_fragment_char uri_chars) bytes)).1 (encoded-in (is_fragment_char uri_chars) plain_fragment bytes)

authority-in : (o : Option AuthorityValue) → IfSome o IsAuthorityKey → none_or (has_authority_parts uri_chars) (option_map canonical_authority o) ≡ true
authority-in None h = refl
authority-in (Some a) h = has_parts-canonical a h

authority-back : (o : Option AuthorityValue) → IfSome o IsAuthorityKey → option_map authority_key (option_map canonical_authority o) ≡ o
authority-back None h = refl
authority-back (Some a) h = ap (λ x. Some x) (authority_key-canonical a h)

-- the canonical reference is readable
pub readable-canonical : (k : ReferenceValue) → IsKey k → is_readable uri_chars (canonical k) ≡ true
unfolding spelled
readable-canonical k h = guarded_reference-readable uri_chars (canonical_parts k) (record {
  scheme = h.scheme;
  authority = authority-in k.authority h.authority;
  segments = canonical_items-in k.path;
  query = none_or-map (is_query uri_chars) (encoded (is_query_char uri_chars)) is_query-encoded k.query;
  fragment = none_or-map (is_fragment uri_chars) (encoded (is_fragment_char uri_chars)) is_fragment-encoded k.fragment;
})

context_of-parts : (k : ReferenceValue) → context_of (canonical_parts k) ≡ context_of k
context_of-parts k = λ i. record { has_scheme = is_some k.scheme; has_authority = is_some-map canonical_authority k.authority i }

-- and its key is the key
pub key-canonical : (k : ReferenceValue) → IsKey k → key (canonical k) ≡ k
unfolding key spelled
key-canonical k h =
    let context = context_of (canonical_parts k) in
    let follows = ap (λ context. follows_authority context k.path) (context_of-parts k) ∙ h.follows in
    λ i. record {
      scheme = h.lower i;
      authority = authority-back k.authority h.authority i;
      path = path_key-canonical context k.path h.items h.some follows i;
      query = option-decoded (is_query_char uri_chars) plain_query k.query h.query i;
      fragment = option-decoded (is_fragment_char uri_chars) plain_fragment k.fragment h.fragment i;
    }

-- a scheme is there where one was
pub scheme-canonical : (r : ReferenceValue) → is_some (canonical (key r)).scheme ≡ is_some r.scheme
unfolding key spelled
scheme-canonical r = is_some-map str_to_ascii_lowercase r.scheme

-- ---- to a key

-- what is decoded of a text in a rule is bytes
decoded_bytes : (A : Rule) (text : Text) → InUtf8 A text → All IsByte (percent_decode text)
decoded_bytes A text z = All-percent_decode text (subst (All IsByte) z.2 (utf8_bytes z.0 z.1))

option_bytes : (A : Rule) (o : Option Text) → IfSome o (InUtf8 A) → IfSome (option_map percent_decode o) (All IsByte)
option_bytes A = IfSome_mapped (InUtf8 A) (All IsByte) percent_decode (decoded_bytes A)

pub decoded_items : (A : Rule) (segments : List Text) → AllByRecursion (InUtf8 A) segments → AreBytes (map percent_decode segments)
decoded_items A [] h = tt
decoded_items A (s ∷ segments) h = (decoded_bytes A s h.0, decoded_items A segments h.1)

scheme-lower : (o : Option Text) → none_or is_scheme o ≡ true → none_or is_scheme (option_map str_to_ascii_lowercase o) ≡ true
scheme-lower None h = refl
scheme-lower (Some s) h = lower_scheme s h

scheme-again : (o : Option Text) → option_map str_to_ascii_lowercase (option_map str_to_ascii_lowercase o) ≡ option_map str_to_ascii_lowercase o
scheme-again None = refl
scheme-again (Some s) = ap (λ t. Some t) (lower_case_again s)

-- no normal list is one empty segment, nor does it decode to one
is_lone : (list : List Text) → is_one_empty list ≡ true → list ≡ [] ∷ []
is_lone [] h = absurd (true≢false (sym h))
is_lone ([] ∷ []) h = refl
is_lone ([] ∷ t ∷ list) h = absurd (true≢false (sym h))
is_lone ((c ∷ s) ∷ list) h = absurd (true≢false (sym h))

pub decoded_some : (list : List Text) → without_lone_empty list ≡ list → is_one_empty (map percent_decode list) ≡ false
unfolding percent_decode
decoded_some list same = by (is_one_empty (map percent_decode list)) refl
  where
    by : (b : Bool) → is_one_empty (map percent_decode list) ≡ b → b ≡ false
    by false e = refl
    by true e =
        let none : map percent_decode list ≡ [] = sym (ap (map percent_decode) same) ∙ lone_equal list ([] ∷ []) (is_lone (map percent_decode list) e) in
        absurd (true≢false (sym e ∙ ap is_one_empty none))

path_key-follows : (context : PathContext) (p : PathValue) → follows_authority context p ≡ true → follows_authority context (path_key p) ≡ true
unfolding path_key normal_segments excess staying_names
path_key-follows context p h = grind arith

context_of-key : (r : ReferenceValue) → context_of (key r) ≡ context_of r
unfolding key
context_of-key r = λ i. record { has_scheme = is_some-map str_to_ascii_lowercase r.scheme i; has_authority = is_some-map authority_key r.authority i }

module _ (set : CharTests) (above : AreAboveAscii set) where
  is_authority_key : (a : AuthorityValue) → HasAuthorityParts set a → IsAuthorityKey (authority_key a)
  is_authority_key a parts = record {
    user_info = option_bytes (IsUserInfo set) a.user_info parts.user_info;
    host = decoded_bytes (IsHost set) a.host parts.host;
    port = (Decides-none_or is_port (InUtf8 IsPort) Decides-is_port_bytes a.port).1 parts.port;
  }

  pub is_key : (r : ReferenceValue) → IsReadable set r → IsKey (key r)
  unfolding key path_key
  is_key r v =
      let parts = readable_parts set r ((Decides-is_readable set above r).1 v) in
      let normal = normal-in (is_segment set) (takes_dots set) r.path parts.segments in
      record {
        scheme = scheme-lower r.scheme parts.scheme;
        lower = scheme-again r.scheme;
        authority = IfSome_mapped (HasAuthorityParts set) IsAuthorityKey authority_key is_authority_key r.authority v.authority;
        items = decoded_items (IsSegment set) (normal_segments r.path) ((Decides-all (is_segment set) (InUtf8 (IsSegment set)) (Decides-is_segment set above) (normal_segments r.path)).0 normal);
        some = decoded_some (normal_segments r.path) (lone-normal r.path);
        follows = ap (λ context. follows_authority context (path_key r.path)) (context_of-key r) ∙ path_key-follows (context_of r) r.path parts.follows;
        query = option_bytes (IsQuery set) r.query v.query;
        fragment = option_bytes (IsFragment set) r.fragment v.fragment;
      }
