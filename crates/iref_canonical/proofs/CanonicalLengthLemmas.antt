-- How long canonical texts are.
use Rattle.std.proofs.Common.{arith, ◌≡◌, ℕ, ◌+◌, ◌*◌, ◌≤◌, Bool, true, false, List, [], ◌∷◌, ◌++◌, Option, Some, None, length, refl, ap, length-append, map, option_map, codes, if◌then◌else◌, cond, not, ◌&&◌}
use Rattle.std.proofs.{lemmas.Bool.Decides.{nat_tests}, lemmas.List.{length-map}, lemmas.Slice.Eq.{bytes_eq-Decides}}
use Rattle.std.specs.{Char.{to_ascii_lowercase}, List.{join_with_byte}, Str.{str_to_ascii_lowercase}}
use Rattle.percent_encoding.specs.Percent.{percent_decode, percent_encode_byte}
use Rattle.percent_encoding.proofs.PercentLemmas.{length-percent_decode}
use Rattle.iref_grammar.specs.{Authority.{AuthorityValue, spell_authority}, Characters.{uri_chars}}
use Rattle.iref_grammar.specs.Grammar.{at_sign, colon, hash_sign, is_fragment_char, is_path_char, is_query_char, is_reg_name_char, is_user_info_char, question_mark, slash}
use Rattle.iref_grammar.specs.{Tests.{is_ip_literal}, PathValue.{PathValue, spell_path}}
use Rattle.iref_grammar.specs.{Reference.{ReferenceValue, context_of, read_reference, spell}, Rules.{Text}}
use Rattle.iref_grammar.specs.{Texts.{is_empty, part_then, then_part}, Contexts.{reads_as_path}}
use Rattle.iref_grammar.specs.declared.context.PathContext.{PathContext}
use Rattle.iref_grammar.proofs.ReferenceCutLemmas.{read_reference-spelled}
use Rattle.iref_grammar.specs.{AuthorityKey.{authority_key}, Guard.{guarded, made_absolute, with_dot}, Key.{key}}
use Rattle.iref_grammar.specs.{NormalList.{is_dot_dot, normal_segments}, PathKey.{path_key}}
use Rattle.iref_grammar.proofs.MappedLemmas.{length-escape}
use Rattle.iref_path.specs.Spelling.{each_closed}
use Rattle.iref_path.proofs.SpellLemmas.{length-join, normal_size, size-cons}
use Rattle.iref_canonical.specs.Canonical.{canonical_authority, canonical_host, canonical_items, canonical_name, canonical_parts, canonical_path, canonical_relative, canonical_text, encoded, encoded_byte, spelled_relative, spelled}

-- ---- texts

module _ (allowed : ℕ → Bool) where
  byte_size : (b : ℕ) → length (encoded_byte allowed b) ≤ 3
  byte_size b = by (allowed b)
    where
      by : (stands : Bool) → length (cond stands (b ∷ []) (percent_encode_byte b)) ≤ 3
      by true = omega arith
      by false = omega (arith, length-escape b)

  text_size : (text : Text) → length (encoded allowed text) ≤ 3 * length text
  unfolding encoded
  text_size [] = omega arith
  text_size (b ∷ text) = omega (arith, byte_size b, text_size text, length-append (encoded_byte allowed b) (encoded allowed text))

  decoded_size : (text : Text) → length (encoded allowed (percent_decode text)) ≤ 3 * length text
  decoded_size text = omega (arith, text_size (percent_decode text), (length-percent_decode text).0)

  -- a part, with its delimiter
  part_before : (mark : ℕ) (part : Option Text) → length (part_then (mark ∷ []) (option_map (encoded allowed) (option_map percent_decode part))) ≤ 3 * length (part_then (mark ∷ []) part)
  part_before mark None = omega arith
  part_before mark (Some text) = omega (arith, decoded_size text, length-append (encoded allowed (percent_decode text)) (mark ∷ []), length-append text (mark ∷ []))

  part_behind : (mark : ℕ) (part : Option Text) → length (then_part (mark ∷ []) (option_map (encoded allowed) (option_map percent_decode part))) ≤ 3 * length (then_part (mark ∷ []) part)
  part_behind mark None = omega arith
  part_behind mark (Some text) = omega (arith, decoded_size text, length-append (mark ∷ []) (encoded allowed (percent_decode text)), length-append (mark ∷ []) text)

scheme_size : (scheme : Option Text) → length (part_then (colon ∷ []) (option_map str_to_ascii_lowercase scheme)) ≡ length (part_then (colon ∷ []) scheme)
scheme_size None = refl
scheme_size (Some text) = omega (arith, length-map text to_ascii_lowercase, length-append (str_to_ascii_lowercase text) (colon ∷ []), length-append text (colon ∷ []))

-- ---- an authority

host_size : (host : Text) → length (canonical_host (percent_decode host)) ≤ 3 * length host
host_size host = by (is_ip_literal (percent_decode host))
  where
    by : (literal : Bool) → length (cond literal (percent_decode host) (encoded (is_reg_name_char uri_chars) (percent_decode host))) ≤ 3 * length host
    by true = omega (arith, (length-percent_decode host).0)
    by false = decoded_size (is_reg_name_char uri_chars) host

authority_size : (a : AuthorityValue) → length (spell_authority (canonical_authority (authority_key a))) ≤ 3 * length (spell_authority a)
unfolding spell_authority
authority_size a =
    let allowed = is_user_info_char uri_chars in
    let user = part_then (at_sign ∷ []) (option_map (encoded allowed) (option_map percent_decode a.user_info)) in
    let host = canonical_host (percent_decode a.host) in
    let port = then_part (colon ∷ []) a.port in
    let old_user = part_then (at_sign ∷ []) a.user_info in
    let new : length ((user ++ host) ++ port) ≡ length user + length host + length port = grind (arith, length-append) in
    let old : length ((old_user ++ a.host) ++ port) ≡ length old_user + length a.host + length port = grind (arith, length-append) in
    omega (arith, part_before allowed at_sign a.user_info, host_size a.host)

authority_behind : (a : Option AuthorityValue)
    → length (then_part (codes "//") (option_map spell_authority (option_map canonical_authority (option_map authority_key a)))) ≤ 3 * length (then_part (codes "//") (option_map spell_authority a))
authority_behind None = omega arith
authority_behind (Some a) =
    omega (arith, authority_size a, length-append (codes "//") (spell_authority (canonical_authority (authority_key a))), length-append (codes "//") (spell_authority a))

-- ---- a path

name_size : (item : Text) → length (canonical_name item) ≤ 3 * length item
name_size item = grind (arith, nat_tests, bytes_eq-Decides, text_size (is_path_char uri_chars) item)

names_size : (list : List Text) → length (each_closed (map canonical_name list)) ≤ 3 * length (each_closed list)
names_size [] = omega arith
names_size (s ∷ list) = omega (arith, name_size s, names_size list, size-cons s list, size-cons (canonical_name s) (map canonical_name list))

relative_size : (list : List Text) → length (each_closed (canonical_relative list)) ≤ 3 * length (each_closed list)
unfolding spelled_relative
relative_size [] = omega arith
relative_size (s ∷ list) = by (is_dot_dot s && not (is_empty list)) (relative_size list)
  where
    by : (stands : Bool) → length (each_closed (canonical_relative list)) ≤ 3 * length (each_closed list)
        → length (each_closed (cond stands (s ∷ canonical_relative list) (map canonical_name (s ∷ list)))) ≤ 3 * length (each_closed (s ∷ list))
    by true h = omega (arith, size-cons s list, size-cons s (canonical_relative list))
    by false h = names_size (s ∷ list)

items_size : (p : PathValue) → length (each_closed (canonical_items p)) ≤ 3 * length (each_closed p.segments)
items_size p = by p.absolute
  where
    by : (absolute : Bool) → length (each_closed (cond absolute (map canonical_name p.segments) (canonical_relative p.segments))) ≤ 3 * length (each_closed p.segments)
    by true = names_size p.segments
    by false = relative_size p.segments

decoded_list : (list : List Text) → length (each_closed (map percent_decode list)) ≤ length (each_closed list)
decoded_list [] = omega arith
decoded_list (s ∷ list) = omega (arith, (length-percent_decode s).0, decoded_list list, size-cons s list, size-cons (percent_decode s) (map percent_decode list))

guard_size : (context : PathContext) (p : PathValue) → length (each_closed (guarded context p).segments) ≤ length (each_closed p.segments) + 2
unfolding guarded
guard_size context p = by (reads_as_path context (made_absolute context p))
  where
    by : (reads : Bool) → length (each_closed (cond {A = PathValue} reads (made_absolute context p) (with_dot (made_absolute context p))).segments) ≤ length (each_closed p.segments) + 2
    by true = omega arith
    by false = omega (arith, size-cons (codes ".") p.segments)

root_size : (absolute : Bool) → length (cond absolute (slash ∷ []) []) ≤ 1
root_size true = omega arith
root_size false = omega arith

spelled_size : (p : PathValue) → (length (spell_path p) ≤ length (each_closed p.segments) + 1) × (length (each_closed p.segments) ≤ length (spell_path p) + 1)
unfolding spell_path
spelled_size p =
    let root = if p.absolute then slash ∷ [] else [] in
    let both = length-append root (join_with_byte slash p.segments) in
    let joined = length-join p.segments in
    let one = root_size p.absolute in
    (omega arith, omega arith)

path_size : (context : PathContext) (p : PathValue) → length (spell_path (guarded context (canonical_path (path_key p)))) ≤ 3 * length (spell_path p) + 9
unfolding path_key
path_size context p =
    let k = canonical_path (path_key p) in
    omega (arith, (spelled_size (guarded context k)).0, guard_size context k, items_size (path_key p), decoded_list (normal_segments p), normal_size p, (spelled_size p).1)

-- ---- all

text_of_value_size : (r : ReferenceValue) → length (canonical_text (key r)) ≤ 3 * length (spell r) + 9
unfolding spelled key spell
text_of_value_size r =
    let k = key r in
    let scheme = part_then (colon ∷ []) r.scheme in
    let authority = then_part (codes "//") (option_map spell_authority r.authority) in
    let path = spell_path r.path in
    let query = then_part (question_mark ∷ []) r.query in
    let fragment = then_part (hash_sign ∷ []) r.fragment in
    let new_scheme = part_then (colon ∷ []) k.scheme in
    let new_authority = then_part (codes "//") (option_map spell_authority (option_map canonical_authority k.authority)) in
    let new_path = spell_path (guarded (context_of (canonical_parts k)) (canonical_path k.path)) in
    let new_query = then_part (question_mark ∷ []) (option_map (encoded (is_query_char uri_chars)) k.query) in
    let new_fragment = then_part (hash_sign ∷ []) (option_map (encoded (is_fragment_char uri_chars)) k.fragment) in
    let old : length (scheme ++ authority ++ path ++ query ++ fragment) ≡ length scheme + length authority + length path + length query + length fragment = grind (arith, length-append) in
    let new : length (new_scheme ++ new_authority ++ new_path ++ new_query ++ new_fragment) ≡ length new_scheme + length new_authority + length new_path + length new_query + length new_fragment =
    grind (arith, length-append) in
    omega (arith, scheme_size r.scheme, authority_behind r.authority, path_size (context_of (canonical_parts k)) r.path, part_behind (is_query_char uri_chars) question_mark r.query, part_behind (is_fragment_char uri_chars) hash_sign r.fragment)

pub canonical_text_size : (bytes : Text) → length (canonical_text (key (read_reference bytes))) ≤ 3 * length bytes + 9
canonical_text_size bytes = omega (arith, text_of_value_size (read_reference bytes), ap length (read_reference-spelled bytes))

pub ruleset sizes = (canonical_text_size)
