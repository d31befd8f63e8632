-- A reference whose text has no escape, no dot segment and no upper-case letter in the scheme stands as it is, if it is ASCII or bytes
-- beyond ASCII stand raw.
use Rattle.std.proofs.Common.{◌≡◌, ℕ, Bool, true, false, not, cond, ◌||◌, List, [], ◌∷◌, ◌++◌, map, refl, sym, ◌∙◌, ap, arith, Option, Some, None, option_map, codes, true≢false}
use Rattle.std.proofs.{lemmas.Bool.{and_from, and_parts, cond-false, not-true}, lemmas.Bool.Decides.{nat_tests}}
use Rattle.std.specs.List.{list_all, join_with_byte}
use Rattle.std.specs.{Str.{str_to_ascii_lowercase}, Char.{is_ascii, to_ascii_lowercase}}
use Rattle.percent_encoding.specs.Percent.{percent_decode, percent_encode_byte, percent_sign}
use Rattle.iref_grammar.specs.{Characters.{CharTests, AreAboveAscii, uri_chars}, Rules.{Text}}
use Rattle.iref_grammar.specs.Grammar.{slash, colon, question_mark, hash_sign, at_sign, is_path_char, is_query_char, is_fragment_char, is_user_info_char, is_reg_name_char}
use Rattle.iref_grammar.specs.Texts.{lacks, part_then, then_part}
use Rattle.iref_grammar.specs.Tests.{none_or, is_segment, is_query, is_fragment, is_user_info, is_reg_name, is_host, is_ip_literal, is_port}
use Rattle.iref_grammar.specs.Authority.{AuthorityValue, spell_authority, has_authority_parts}
use Rattle.iref_grammar.specs.PathValue.{PathValue, is_one_empty, shows_its_list, spell_path, read_path}
use Rattle.iref_grammar.specs.Reference.{ReferenceValue, context_of, is_readable, is_reference, read_reference, spell}
use Rattle.iref_grammar.proofs.{PctLemmas.{literal_lacks}, ReadablePartsLemmas.{readable_parts}}
use Rattle.iref_grammar.proofs.ReferenceCutLemmas.{read_reference-spelled}
use Rattle.iref_grammar.specs.{AuthorityKey.{authority_key}, ComponentSteps.{guarded_reference}}
use Rattle.iref_grammar.specs.{NormalList.{is_dot, is_dot_dot, is_name, normal_segments}, PathKey.{path_key}, Key.{key}}
use Rattle.iref_grammar.specs.Mapping.{mapped, mapped_authority, mapped_reference}
use Rattle.iref_parse.specs.Dots.{begins_with_dot, is_some_dotted, has_dotted_segment}
use Rattle.iref_grammar.proofs.AsciiReferenceLemmas.{is_reference-mapped, read_reference-tested}
use Rattle.iref_grammar.proofs.MappedLemmas.{mapped-ascii, mapped-escaped, mapped-kept}
use Rattle.iref_path.proofs.{DotlessLemmas.{dotless_name, normal_segments-dotless}, GuardTextLemmas.{guarded-same}}
use Rattle.iref_canonical.specs.Canonical.{encoded, spelled, spelled_authority, spelled_host, spelled_list, spelled_name, spelled_parts, spelled_path, spelled_relative, stands}
use Rattle.iref_canonical.specs.{Decoded.{are_standing, is_standing}, Lower.{is_lower, is_lower_byte}}
use Rattle.iref_canonical.proofs.PlainTextLemmas.{joined-all, standing-decoded, standing-encoded, standing-parts}

-- ---- schemes

lower_byte : (b : ℕ) → is_lower_byte b ≡ true → to_ascii_lowercase b ≡ b
lower_byte b h = grind (arith, nat_tests)

pub lower_same : (text : Text) → is_lower text ≡ true → str_to_ascii_lowercase text ≡ text
lower_same [] h = refl
lower_same (c ∷ cs) h =
    let both = and_parts (is_lower_byte c) (is_lower cs) h in
    λ i. lower_byte c both.0 i ∷ lower_same cs both.1 i

lower_scheme : (o : Option Text) → none_or is_lower o ≡ true → option_map str_to_ascii_lowercase o ≡ o
lower_scheme None h = refl
lower_scheme (Some s) h = ap (λ t. Some t) (lower_same s h)

-- ---- normal paths

not_lone : (p : PathValue) → shows_its_list p ≡ true → is_one_empty p.segments ≡ false
not_lone p h = grind arith

pub normal_same : (p : PathValue) → is_some_dotted p.segments ≡ false → shows_its_list p ≡ true → normal_segments p ≡ p.segments
normal_same p d h = normal_segments-dotless p d ∙ cond-false (is_one_empty p.segments) [] p.segments (not_lone p h)

-- the segments of a path are those of its text
pub read_dotless : (text : Text) → has_dotted_segment text ≡ false → is_some_dotted (read_path text).segments ≡ false
unfolding read_path
read_dotless [] h = refl
read_dotless (c ∷ cs) h = grind arith

-- ---- guards

unguarded : (set : CharTests) (r : ReferenceValue) → is_readable set r ≡ true → guarded_reference r ≡ r
unguarded set r v =
    let parts = readable_parts set r v in
    let path = guarded-same (context_of r) r.path (and_from _ _ parts.follows parts.reads) in
    λ i. record r { path = path i }

-- ---- literals

escape_has : (b : ℕ) (rest : Text) → lacks percent_sign (percent_encode_byte b ++ rest) ≡ false
unfolding percent_encode_byte
escape_has b rest = refl

lacks_tail : (c : ℕ) (cs : Text) → lacks percent_sign (c ∷ cs) ≡ true → lacks percent_sign cs ≡ true
lacks_tail c cs h = grind arith

-- a mapping without `%` is of ASCII
unmapped : (text : Text) → lacks percent_sign (mapped text) ≡ true → list_all is_ascii text ≡ true
unmapped [] h = refl
unmapped (c ∷ cs) h = by (is_ascii c) refl (unmapped cs)
  where
    by : (low : Bool) → is_ascii c ≡ low → (lacks percent_sign (mapped cs) ≡ true → list_all is_ascii cs ≡ true) → list_all is_ascii (c ∷ cs) ≡ true
    by true e rest = and_from (is_ascii c) (list_all is_ascii cs) e (rest (lacks_tail c (mapped cs) (ap (lacks percent_sign) (sym (mapped-kept c cs e)) ∙ h)))
    by false e rest = absurd (true≢false (sym (ap (lacks percent_sign) (sym (mapped-escaped c cs e)) ∙ h) ∙ escape_has c (mapped cs)))

-- a literal has no escape, so its mapping is one exactly if it is one
literal-mapped : (text : Text) → is_ip_literal text ≡ false → is_ip_literal (mapped text) ≡ false
literal-mapped text e = by (is_ip_literal (mapped text)) refl
  where
    by : (literal : Bool) → is_ip_literal (mapped text) ≡ literal → literal ≡ false
    by false f = refl
    by true f = absurd (true≢false (sym f ∙ ap is_ip_literal (mapped-ascii text (unmapped text (literal_lacks (mapped text) f))) ∙ e))

-- ---- with the bytes beyond ASCII raw, or escaped

module _ (raw : Bool) where
  -- ---- parts that may be absent

  option_same : (f g : Text → Text) (test : Text → Bool) → ((t : Text) → are_standing raw t ≡ true → test (mapped t) ≡ true → f (g t) ≡ t)
      → (o : Option Text) → none_or (are_standing raw) o ≡ true → none_or test (option_map mapped o) ≡ true → option_map f (option_map g o) ≡ o
  option_same f g test same None h k = refl
  option_same f g test same (Some t) h k = ap (λ u. Some u) (same t h k)

  same_query : (t : Text) → are_standing raw t ≡ true → is_query uri_chars (mapped t) ≡ true → encoded (stands raw (is_query_char uri_chars)) (percent_decode t) ≡ t
  unfolding is_query
  same_query t h k = standing-encoded raw (is_query_char uri_chars) t h k

  same_fragment : (t : Text) → are_standing raw t ≡ true → is_fragment uri_chars (mapped t) ≡ true → encoded (stands raw (is_fragment_char uri_chars)) (percent_decode t) ≡ t
  unfolding is_fragment
  same_fragment t h k = standing-encoded raw (is_fragment_char uri_chars) t h k

  same_user_info : (t : Text) → are_standing raw t ≡ true → is_user_info uri_chars (mapped t) ≡ true → encoded (stands raw (is_user_info_char uri_chars)) (percent_decode t) ≡ t
  unfolding is_user_info
  same_user_info t h k = standing-encoded raw (is_user_info_char uri_chars) t h k

  same_segment : (t : Text) → are_standing raw t ≡ true → is_segment uri_chars (mapped t) ≡ true → encoded (stands raw (is_path_char uri_chars)) (percent_decode t) ≡ t
  unfolding is_segment
  same_segment t h k = standing-encoded raw (is_path_char uri_chars) t h k

  same_reg_name : (t : Text) → are_standing raw t ≡ true → is_reg_name uri_chars (mapped t) ≡ true → encoded (stands raw (is_reg_name_char uri_chars)) (percent_decode t) ≡ t
  unfolding is_reg_name
  same_reg_name t h k = standing-encoded raw (is_reg_name_char uri_chars) t h k

  -- ---- authorities

  same_host : (t : Text) → are_standing raw t ≡ true → is_host uri_chars (mapped t) ≡ true → spelled_host raw (percent_decode t) ≡ t
  unfolding is_host
  same_host t h k = ap (spelled_host raw) (standing-decoded raw t h) ∙ by (is_ip_literal t) refl
    where
      by : (literal : Bool) → is_ip_literal t ≡ literal → cond literal t (encoded (stands raw (is_reg_name_char uri_chars)) t) ≡ t
      by true e = refl
      by false e =
          let name : is_reg_name uri_chars (mapped t) ≡ true = (λ i. sym (literal-mapped t e) i || is_reg_name uri_chars (mapped t)) ∙ k in
          ap (encoded (stands raw (is_reg_name_char uri_chars))) (sym (standing-decoded raw t h)) ∙ same_reg_name t h name

  -- what stands before a mark, and after it
  standing_then : (mark : Text) (o : Option Text) → are_standing raw (then_part mark o) ≡ true → none_or (are_standing raw) o ≡ true
  standing_then mark None h = refl
  standing_then mark (Some t) h = (standing-parts raw mark t h).1

  standing_before_mark : (mark : Text) (o : Option Text) → are_standing raw (part_then mark o) ≡ true → none_or (are_standing raw) o ≡ true
  standing_before_mark mark None h = refl
  standing_before_mark mark (Some t) h = (standing-parts raw t mark h).0

  same_authority : (a : AuthorityValue) → are_standing raw (spell_authority a) ≡ true → has_authority_parts uri_chars (mapped_authority a) ≡ true → spelled_authority raw (authority_key a) ≡ a
  unfolding spell_authority has_authority_parts
  same_authority a h k =
      let before_port = standing-parts raw (part_then (at_sign ∷ []) a.user_info ++ a.host) (then_part (colon ∷ []) a.port) h in
      let before_host = standing-parts raw (part_then (at_sign ∷ []) a.user_info) a.host before_port.0 in
      let parts = and_parts _ (none_or is_port (option_map mapped a.port)) k in
      let front = and_parts (none_or (is_user_info uri_chars) (option_map mapped a.user_info)) (is_host uri_chars (mapped a.host)) parts.0 in
      λ i. record {
        user_info =
            option_same (encoded (stands raw (is_user_info_char uri_chars))) percent_decode (is_user_info uri_chars) same_user_info a.user_info
            (standing_before_mark (at_sign ∷ []) a.user_info before_host.0) front.0 i;
        host = same_host a.host before_host.1 front.1 i;
        port = a.port;
      }

  same_authorities : (o : Option AuthorityValue) → none_or (are_standing raw) (option_map spell_authority o) ≡ true → none_or (has_authority_parts uri_chars) (option_map mapped_authority o) ≡ true
      → option_map (spelled_authority raw) (option_map authority_key o) ≡ o
  same_authorities None h k = refl
  same_authorities (Some a) h k = ap (λ x. Some x) (same_authority a h k)

  -- ---- paths

  pub named : (item : Text) → is_name item ≡ true → spelled_name raw item ≡ encoded (stands raw (is_path_char uri_chars)) item
  named item h =
      let both = and_parts (not (is_dot item)) (not (is_dot_dot item)) h in
      λ i. cond (not-true (is_dot item) both.0 i) (codes "%2E") (cond (not-true (is_dot_dot item) both.1 i) (codes "%2E%2E") (encoded (stands raw (is_path_char uri_chars)) item))

  same_item : (s : Text) → begins_with_dot s ≡ false → are_standing raw s ≡ true → is_segment uri_chars (mapped s) ≡ true → spelled_name raw (percent_decode s) ≡ s
  same_item s d h k =
      let decoded = standing-decoded raw s h in
      named (percent_decode s) (ap is_name decoded ∙ dotless_name s d) ∙ same_segment s h k

  same_items : (list : List Text) → is_some_dotted list ≡ false → list_all (are_standing raw) list ≡ true → list_all (is_segment uri_chars) (map mapped list) ≡ true
      → map (spelled_name raw) (map percent_decode list) ≡ list
  same_items [] d h k = refl
  same_items (s ∷ rest) d h k =
      let here = and_parts (are_standing raw s) (list_all (are_standing raw) rest) h in
      let rule = and_parts (is_segment uri_chars (mapped s)) (list_all (is_segment uri_chars) (map mapped rest)) k in
      grind (arith, same_item, same_items rest)

  -- no first item stands
  no_parent : (list : List Text) → is_some_dotted list ≡ false → list_all (are_standing raw) list ≡ true
      → spelled_relative raw (map percent_decode list) ≡ map (spelled_name raw) (map percent_decode list)
  unfolding spelled_relative
  no_parent [] d h = refl
  no_parent (s ∷ rest) d h =
      let here = and_parts (are_standing raw s) (list_all (are_standing raw) rest) h in
      grind (arith, standing-decoded raw s here.0, dotless_name)

  same_list : (absolute : Bool) (list : List Text) → is_some_dotted list ≡ false → list_all (are_standing raw) list ≡ true → list_all (is_segment uri_chars) (map mapped list) ≡ true
      → spelled_list raw (record { absolute = absolute; segments = map percent_decode list }) ≡ list
  same_list true list d h k = same_items list d h k
  same_list false list d h k = no_parent list d h ∙ same_items list d h k

  same_path : (p : PathValue) → is_some_dotted p.segments ≡ false → shows_its_list p ≡ true → list_all (are_standing raw) p.segments ≡ true
      → list_all (is_segment uri_chars) (map mapped p.segments) ≡ true → spelled_path raw (path_key p) ≡ p
  unfolding path_key
  same_path p d s h k =
      let list = ap (λ l. spelled_list raw (record { absolute = p.absolute; segments = map percent_decode l })) (normal_same p d s) ∙ same_list p.absolute p.segments d h k in
      λ i. record { absolute = p.absolute; segments = list i }

  standing_path : (p : PathValue) → are_standing raw (spell_path p) ≡ true → list_all (are_standing raw) p.segments ≡ true
  unfolding spell_path
  standing_path p h = joined-all (is_standing raw) slash p.segments ((standing-parts raw (cond p.absolute (slash ∷ []) []) (join_with_byte slash p.segments) h).1)

  -- ---- references

  -- the scheme is in lower case, each byte of the text stands, and no segment begins with a dot
  record IsPlainReference (r : ReferenceValue) : Type 0 where
    lower : none_or is_lower r.scheme ≡ true
    standing : are_standing raw (spell r) ≡ true
    dotless : is_some_dotted r.path.segments ≡ false

  -- the components of the text
  record HasStandingParts (r : ReferenceValue) : Type 0 where
    authority : none_or (are_standing raw) (option_map spell_authority r.authority) ≡ true
    path : list_all (are_standing raw) r.path.segments ≡ true
    query : none_or (are_standing raw) r.query ≡ true
    fragment : none_or (are_standing raw) r.fragment ≡ true

  standing_components : (r : ReferenceValue) → are_standing raw (spell r) ≡ true → HasStandingParts r
  unfolding spell
  standing_components r h =
      let scheme = part_then (colon ∷ []) r.scheme in
      let authority = scheme ++ then_part (codes "//") (option_map spell_authority r.authority) in
      let path = authority ++ spell_path r.path in
      let query = path ++ then_part (question_mark ∷ []) r.query in
      let a = standing-parts raw query (then_part (hash_sign ∷ []) r.fragment) h in
      let b = standing-parts raw path (then_part (question_mark ∷ []) r.query) a.0 in
      let c = standing-parts raw authority (spell_path r.path) b.0 in
      let d = standing-parts raw scheme (then_part (codes "//") (option_map spell_authority r.authority)) c.0 in
      record {
        authority = standing_then (codes "//") (option_map spell_authority r.authority) d.1;
        path = standing_path r.path c.1;
        query = standing_then (question_mark ∷ []) r.query b.1;
        fragment = standing_then (hash_sign ∷ []) r.fragment a.1;
      }

  same_parts : (r : ReferenceValue) → shows_its_list r.path ≡ true → is_readable uri_chars (mapped_reference r) ≡ true → IsPlainReference r → spelled_parts raw (key r) ≡ r
  unfolding key
  same_parts r shown v plain =
      let parts = readable_parts uri_chars (mapped_reference r) v in
      let texts = standing_components r plain.standing in
      λ i. record {
        scheme = lower_scheme r.scheme plain.lower i;
        authority = same_authorities r.authority texts.authority parts.authority i;
        path = same_path r.path plain.dotless shown texts.path parts.segments i;
        query = option_same (encoded (stands raw (is_query_char uri_chars))) percent_decode (is_query uri_chars) same_query r.query texts.query parts.query i;
        fragment = option_same (encoded (stands raw (is_fragment_char uri_chars))) percent_decode (is_fragment uri_chars) same_fragment r.fragment texts.fragment parts.fragment i;
      }

  -- and so the text stands
  pub plain_text : (set : CharTests) → AreAboveAscii set → (text : Text) → is_reference set text ≡ true
      → none_or is_lower (read_reference text).scheme ≡ true → are_standing raw text ≡ true → is_some_dotted (read_reference text).path.segments ≡ false
      → spell (spelled raw (key (read_reference text))) ≡ text
  unfolding is_reference spelled
  plain_text set above text h lower standing dotless =
      let r = read_reference text in
      let spelt = read_reference-spelled text in
      let parts = readable_parts set r h in
      let shown = (and_parts _ _ ((and_parts _ _ parts.reads).0)).0 in
      let mapping = ap (is_readable uri_chars) (sym (read_reference-tested set above text h)) ∙ is_reference-mapped set above text h in
      let plain : IsPlainReference r = record { lower = lower; standing = ap (are_standing raw) spelt ∙ standing; dotless = dotless } in
      ap (λ s. spell (guarded_reference s)) (same_parts r shown mapping plain) ∙ ap spell (unguarded set r h) ∙ spelt

pub ruleset plain = (plain_text, read_dotless)
