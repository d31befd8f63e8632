-- The text that is hashed of a key: its mapping is the canonical text, and no byte of it is 255.
use Rattle.std.proofs.Common.{◌≡◌, ℕ, Bool, true, false, not, cond, ◌&&◌, ◌||◌, ◌==◌, List, [], ◌∷◌, ◌++◌, map, refl, sym, ◌∙◌, ap, arith, Option, Some, None, IfSome, codes, option_map, true≢false}
use Rattle.std.proofs.{lemmas.Bool.{and_from, and_parts}, lemmas.Bool.Decides.{nat_tests}, lemmas.List.{append-nil}}
use Rattle.std.proofs.lemmas.List.Folds.{list_all-append}
use Rattle.std.specs.{Char.{is_ascii}, Cmp.Lexicographic.{bytes_decides}, List.{list_all, join_with_byte}}
use Rattle.percent_encoding.specs.Percent.{percent_encode_byte}
use Rattle.iref_grammar.specs.{declared.context.PathContext.{PathContext}, Authority.{AuthorityValue, spell_authority}}
use Rattle.iref_grammar.specs.{Characters.{uri_chars}, Contexts.{reads_as_path}}
use Rattle.iref_grammar.specs.Grammar.{at_sign, colon, hash_sign, question_mark, slash, is_fragment_char, is_path_char, is_query_char, is_reg_name_char, is_user_info_char}
use Rattle.iref_grammar.specs.{PathValue.{PathValue, spell_path}, Reference.{ReferenceValue, context_of, spell}}
use Rattle.iref_grammar.specs.{Rules.{Text}, Tests.{none_or, is_ip_literal, is_port, is_scheme}}
use Rattle.iref_grammar.specs.Texts.{is_empty, part_then, then_part}
use Rattle.iref_grammar.proofs.HostRuleLemmas.{Decides-is_ip_literal, join_all, literal_ascii}
use Rattle.iref_grammar.specs.{ComponentSteps.{guarded_reference}, Guard.{guarded, made_absolute, with_dot}}
use Rattle.iref_grammar.specs.{Mapping.{mapped, mapped_authority, mapped_reference}, NormalList.{is_dot, is_dot_dot}}
use Rattle.iref_grammar.proofs.MappedLemmas.{escape_ascii, mapped-append, mapped-ascii, mapped-escaped, mapped-kept, mapped-nil}
use Rattle.iref_grammar.proofs.MappedResolutionLemmas.{guarded_reference-mapped}
use Rattle.iref_grammar.proofs.{MappedRuleLemmas.{port_ascii, scheme_ascii}, MappedSpellingLemmas.{spell-mapped}}
use Rattle.iref_splice.specs.Fed.{is_unended}
use Rattle.iref_canonical.specs.Canonical.{canonical_text, encoded, encoded_byte, hashed_text, spelled, spelled_authority, spelled_host, spelled_name, spelled_parts, spelled_relative, stands}
use Rattle.iref_canonical.proofs.{CanonicalKeyLemmas.{IsKey}, CanonicalPartLemmas.{IsAuthorityKey}}
use Rattle.iref_canonical.proofs.EncodedTextLemmas.{IsPlain}
use Rattle.iref_canonical.proofs.PlainCharacterLemmas.{plain_fragment, plain_name, plain_path, plain_query, plain_user_info}

-- ---- bytes

not_255 : (b : ℕ) → is_ascii b ≡ true → not (b == 255) ≡ true
not_255 b h = grind (arith, nat_tests)

pub ascii-unended : (text : Text) → list_all is_ascii text ≡ true → is_unended text ≡ true
ascii-unended [] h = refl
ascii-unended (b ∷ bs) h =
    let both = and_parts (is_ascii b) (list_all is_ascii bs) h in
    and_from (not (b == 255)) (is_unended bs) (not_255 b both.0) (ascii-unended bs both.1)

both-unended : (front back : Text) → is_unended front ≡ true → is_unended back ≡ true → is_unended (front ++ back) ≡ true
both-unended front back h k = list_all-append (λ b. not (b == 255)) front back ∙ and_from (is_unended front) (is_unended back) h k

module _ (test : ℕ → Bool) (plain : IsPlain test) where
  one_mapped : (b : ℕ) → mapped (encoded_byte (stands true test) b) ≡ encoded_byte test b
  one_mapped b = by (is_ascii b) refl (test b) refl (b == 255)
    where
      by : (low : Bool) → is_ascii b ≡ low → (kept : Bool) → test b ≡ kept → (last : Bool)
          → mapped (cond ((not low && not last) || kept) (b ∷ []) (percent_encode_byte b)) ≡ cond kept (b ∷ []) (percent_encode_byte b)
      by true e true f last = mapped-kept b [] e ∙ ap (λ t. b ∷ t) mapped-nil
      by true e false f last = mapped-ascii (percent_encode_byte b) (escape_ascii b)
      by false e true f last = absurd (true≢false (sym (plain.ascii b f) ∙ e))
      by false e false f true = mapped-ascii (percent_encode_byte b) (escape_ascii b)
      by false e false f false = mapped-escaped b [] e ∙ ap (λ t. percent_encode_byte b ++ t) mapped-nil ∙ append-nil (percent_encode_byte b)

  all_mapped : (bytes : Text) → mapped (encoded (stands true test) bytes) ≡ encoded test bytes
  unfolding encoded
  all_mapped [] = mapped-nil
  all_mapped (b ∷ bytes) = mapped-append (encoded_byte (stands true test) b) (encoded (stands true test) bytes) ∙ (λ i. one_mapped b i ++ all_mapped bytes i)

  option_mapped : (o : Option Text) → option_map mapped (option_map (encoded (stands true test)) o) ≡ option_map (encoded test) o
  option_mapped None = refl
  option_mapped (Some text) = ap (λ t. Some t) (all_mapped text)

  one_unended : (b : ℕ) → is_unended (encoded_byte (stands true test) b) ≡ true
  one_unended b = by (is_ascii b) refl (test b) refl (b == 255) refl
    where
      by : (low : Bool) → is_ascii b ≡ low → (kept : Bool) → test b ≡ kept → (last : Bool) → (b == 255) ≡ last
          → is_unended (cond ((not low && not last) || kept) (b ∷ []) (percent_encode_byte b)) ≡ true
      by true e true f last g = and_from (not (b == 255)) true (not_255 b e) refl
      by true e false f last g = ascii-unended (percent_encode_byte b) (escape_ascii b)
      by false e true f last g = absurd (true≢false (sym (plain.ascii b f) ∙ e))
      by false e false f true g = ascii-unended (percent_encode_byte b) (escape_ascii b)
      by false e false f false g = and_from (not (b == 255)) true (ap not g) refl

  all_unended : (bytes : Text) → is_unended (encoded (stands true test) bytes) ≡ true
  unfolding encoded
  all_unended [] = refl
  all_unended (b ∷ bytes) = both-unended (encoded_byte (stands true test) b) (encoded (stands true test) bytes) (one_unended b) (all_unended bytes)

  option_unended : (o : Option Text) → none_or is_unended (option_map (encoded (stands true test)) o) ≡ true
  option_unended None = refl
  option_unended (Some text) = all_unended text

-- ---- components that are ASCII

scheme_mapped : (o : Option Text) → none_or is_scheme o ≡ true → option_map mapped o ≡ o
scheme_mapped None h = refl
scheme_mapped (Some text) h = ap (λ t. Some t) (mapped-ascii text (scheme_ascii text h))

scheme_unended : (o : Option Text) → none_or is_scheme o ≡ true → none_or is_unended o ≡ true
scheme_unended None h = refl
scheme_unended (Some text) h = ascii-unended text (scheme_ascii text h)

port_mapped : (o : Option Text) → none_or is_port o ≡ true → option_map mapped o ≡ o
port_mapped None h = refl
port_mapped (Some text) h = ap (λ t. Some t) (mapped-ascii text (port_ascii text h))

port_unended : (o : Option Text) → none_or is_port o ≡ true → none_or is_unended o ≡ true
port_unended None h = refl
port_unended (Some text) h = ascii-unended text (port_ascii text h)

-- ---- authorities

host_mapped : (host : Text) → mapped (spelled_host true host) ≡ spelled_host false host
host_mapped host = by (is_ip_literal host) refl
  where
    by : (literal : Bool) → is_ip_literal host ≡ literal
        → mapped (cond literal host (encoded (stands true (is_reg_name_char uri_chars)) host)) ≡ cond literal host (encoded (is_reg_name_char uri_chars) host)
    by true e = mapped-ascii host (literal_ascii host ((Decides-is_ip_literal host).0 e))
    by false e = all_mapped (is_reg_name_char uri_chars) plain_name host

host_unended : (host : Text) → is_unended (spelled_host true host) ≡ true
host_unended host = by (is_ip_literal host) refl
  where
    by : (literal : Bool) → is_ip_literal host ≡ literal → is_unended (cond literal host (encoded (stands true (is_reg_name_char uri_chars)) host)) ≡ true
    by true e = ascii-unended host (literal_ascii host ((Decides-is_ip_literal host).0 e))
    by false e = all_unended (is_reg_name_char uri_chars) plain_name host

authority_mapped : (a : AuthorityValue) → IsAuthorityKey a → mapped_authority (spelled_authority true a) ≡ spelled_authority false a
authority_mapped a h = λ i. record {
  user_info = option_mapped (is_user_info_char uri_chars) plain_user_info a.user_info i;
  host = host_mapped a.host i;
  port = port_mapped a.port h.port i;
}

-- a part and its mark
then-unended : (mark : Text) → is_unended mark ≡ true → (o : Option Text) → none_or is_unended o ≡ true → is_unended (then_part mark o) ≡ true
then-unended mark m None h = refl
then-unended mark m (Some t) h = both-unended mark t m h

before-unended : (mark : Text) → is_unended mark ≡ true → (o : Option Text) → none_or is_unended o ≡ true → is_unended (part_then mark o) ≡ true
before-unended mark m None h = refl
before-unended mark m (Some t) h = both-unended t mark h m

authority_unended : (a : AuthorityValue) → IsAuthorityKey a → is_unended (spell_authority (spelled_authority true a)) ≡ true
unfolding spell_authority
authority_unended a h =
    let user_info = option_map (encoded (stands true (is_user_info_char uri_chars))) a.user_info in
    let front = before-unended (at_sign ∷ []) refl user_info (option_unended (is_user_info_char uri_chars) plain_user_info a.user_info) in
    let host = both-unended (part_then (at_sign ∷ []) user_info) (spelled_host true a.host) front (host_unended a.host) in
    both-unended (part_then (at_sign ∷ []) user_info ++ spelled_host true a.host) (then_part (colon ∷ []) a.port) host (then-unended (colon ∷ []) refl a.port (port_unended a.port h.port))

-- ---- paths

name_mapped : (item : Text) → mapped (spelled_name true item) ≡ spelled_name false item
name_mapped item = by (is_dot item) (is_dot_dot item)
  where
    by : (dot dots : Bool) → mapped (cond dot (codes "%2E") (cond dots (codes "%2E%2E") (encoded (stands true (is_path_char uri_chars)) item)))
        ≡ cond dot (codes "%2E") (cond dots (codes "%2E%2E") (encoded (is_path_char uri_chars) item))
    by true dots = mapped-ascii (codes "%2E") refl
    by false true = mapped-ascii (codes "%2E%2E") refl
    by false false = all_mapped (is_path_char uri_chars) plain_path item

name_unended : (item : Text) → is_unended (spelled_name true item) ≡ true
name_unended item = by (is_dot item) (is_dot_dot item)
  where
    by : (dot dots : Bool) → is_unended (cond dot (codes "%2E") (cond dots (codes "%2E%2E") (encoded (stands true (is_path_char uri_chars)) item))) ≡ true
    by true dots = refl
    by false true = refl
    by false false = all_unended (is_path_char uri_chars) plain_path item

names_mapped : (items : List Text) → map mapped (map (spelled_name true) items) ≡ map (spelled_name false) items
names_mapped [] = refl
names_mapped (item ∷ rest) = λ i. name_mapped item i ∷ names_mapped rest i

names_unended : (items : List Text) → list_all is_unended (map (spelled_name true) items) ≡ true
names_unended [] = refl
names_unended (item ∷ rest) = and_from (is_unended (spelled_name true item)) (list_all is_unended (map (spelled_name true) rest)) (name_unended item) (names_unended rest)

-- a first item that stands
parent : (item : Text) (b : Bool) → (is_dot_dot item && b) ≡ true → item ≡ codes ".."
parent item b e = (bytes_decides item (codes "..")).0 (and_parts (is_dot_dot item) b e).0

relative_mapped : (items : List Text) → map mapped (spelled_relative true items) ≡ spelled_relative false items
unfolding spelled_relative
relative_mapped [] = refl
relative_mapped (item ∷ rest) = by (is_dot_dot item && not (is_empty rest)) refl (relative_mapped rest)
  where
    by : (b : Bool) → (is_dot_dot item && not (is_empty rest)) ≡ b → map mapped (spelled_relative true rest) ≡ spelled_relative false rest
        → map mapped (cond b (item ∷ spelled_relative true rest) (map (spelled_name true) (item ∷ rest))) ≡ cond b (item ∷ spelled_relative false rest) (map (spelled_name false) (item ∷ rest))
    by true e same = let dots = parent item (not (is_empty rest)) e in λ i. (ap mapped dots ∙ mapped-ascii (codes "..") refl ∙ sym dots) i ∷ same i
    by false e same = names_mapped (item ∷ rest)

relative_unended : (items : List Text) → list_all is_unended (spelled_relative true items) ≡ true
unfolding spelled_relative
relative_unended [] = refl
relative_unended (item ∷ rest) = by (is_dot_dot item && not (is_empty rest)) refl (relative_unended rest)
  where
    by : (b : Bool) → (is_dot_dot item && not (is_empty rest)) ≡ b → list_all is_unended (spelled_relative true rest) ≡ true
        → list_all is_unended (cond b (item ∷ spelled_relative true rest) (map (spelled_name true) (item ∷ rest))) ≡ true
    by true e all = and_from (is_unended item) (list_all is_unended (spelled_relative true rest)) (ap is_unended (parent item (not (is_empty rest)) e)) all
    by false e all = names_unended (item ∷ rest)

list_mapped : (absolute : Bool) (items : List Text) → map mapped (cond absolute (map (spelled_name true) items) (spelled_relative true items)) ≡ cond absolute (map (spelled_name false) items) (spelled_relative false items)
list_mapped true items = names_mapped items
list_mapped false items = relative_mapped items

list_unended : (absolute : Bool) (items : List Text) → list_all is_unended (cond absolute (map (spelled_name true) items) (spelled_relative true items)) ≡ true
list_unended true items = names_unended items
list_unended false items = relative_unended items

guarded_unended : (context : PathContext) (p : PathValue) → list_all is_unended p.segments ≡ true → list_all is_unended (guarded context p).segments ≡ true
unfolding guarded
guarded_unended context p h = by (reads_as_path context (made_absolute context p))
  where
    by : (reads : Bool) → list_all is_unended (cond reads (made_absolute context p) (with_dot (made_absolute context p))).segments ≡ true
    by true = h
    by false = h

path_unended : (p : PathValue) → list_all is_unended p.segments ≡ true → is_unended (spell_path p) ≡ true
unfolding spell_path
path_unended p h = both-unended (cond p.absolute (slash ∷ []) []) (join_with_byte slash p.segments) (by p.absolute) (join_all (λ b. not (b == 255)) slash refl p.segments h)
  where
    by : (absolute : Bool) → is_unended (cond absolute (slash ∷ []) []) ≡ true
    by true = refl
    by false = refl

-- ---- references

authorities_mapped : (o : Option AuthorityValue) → IfSome o IsAuthorityKey → option_map mapped_authority (option_map (spelled_authority true) o) ≡ option_map (spelled_authority false) o
authorities_mapped None h = refl
authorities_mapped (Some a) h = ap (λ x. Some x) (authority_mapped a h)

authorities_unended : (o : Option AuthorityValue) → IfSome o IsAuthorityKey → none_or is_unended (option_map spell_authority (option_map (spelled_authority true) o)) ≡ true
authorities_unended None h = refl
authorities_unended (Some a) h = authority_unended a h

parts_mapped : (k : ReferenceValue) → IsKey k → mapped_reference (spelled_parts true k) ≡ spelled_parts false k
parts_mapped k h = λ i. record {
  scheme = scheme_mapped k.scheme h.scheme i;
  authority = authorities_mapped k.authority h.authority i;
  path = record { absolute = k.path.absolute; segments = list_mapped k.path.absolute k.path.segments i };
  query = option_mapped (is_query_char uri_chars) plain_query k.query i;
  fragment = option_mapped (is_fragment_char uri_chars) plain_fragment k.fragment i;
}

-- the mapping of the text is the canonical text
pub hashed-mapped : (k : ReferenceValue) → IsKey k → mapped (hashed_text k) ≡ canonical_text k
unfolding spelled
hashed-mapped k h =
    sym (spell-mapped (guarded_reference (spelled_parts true k))) ∙ ap spell (sym (guarded_reference-mapped (spelled_parts true k)))
    ∙ ap (λ r. spell (guarded_reference r)) (parts_mapped k h)

-- no byte of the text is 255
pub hashed-unended : (k : ReferenceValue) → IsKey k → is_unended (hashed_text k) ≡ true
unfolding spelled spell
hashed-unended k h =
    let r = spelled_parts true k in
    let path = guarded (context_of r) r.path in
    let scheme = part_then (colon ∷ []) r.scheme in
    let authority = then_part (codes "//") (option_map spell_authority r.authority) in
    let query = then_part (question_mark ∷ []) r.query in
    let fragment = then_part (hash_sign ∷ []) r.fragment in
    let a = both-unended scheme authority (before-unended (colon ∷ []) refl r.scheme (scheme_unended k.scheme h.scheme))
    (then-unended (codes "//") refl (option_map spell_authority r.authority) (authorities_unended k.authority h.authority)) in
    let b = both-unended (scheme ++ authority) (spell_path path) a (path_unended path (guarded_unended (context_of r) r.path (list_unended k.path.absolute k.path.segments))) in
    let c = both-unended ((scheme ++ authority) ++ spell_path path) query b
    (then-unended (question_mark ∷ []) refl r.query (option_unended (is_query_char uri_chars) plain_query k.query)) in
    both-unended (((scheme ++ authority) ++ spell_path path) ++ query) fragment c
    (then-unended (hash_sign ∷ []) refl r.fragment (option_unended (is_fragment_char uri_chars) plain_fragment k.fragment))
