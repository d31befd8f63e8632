-- How long sort keys are.
use Rattle.std.proofs.Common.{arith, ◌≡◌, ℕ, ◌+◌, ◌*◌, ◌≤◌, List, [], ◌∷◌, ◌++◌, Option, Some, None, length, ap, length-append, map, option_map, codes, if◌then◌else◌}
use Rattle.std.proofs.lemmas.Bool.Decides.{nat_tests}
use Rattle.std.specs.List.{flat_map, join_with_byte}
use Rattle.percent_encoding.specs.Percent.{percent_decode}
use Rattle.percent_encoding.proofs.PercentLemmas.{length-percent_decode}
use Rattle.iref_grammar.specs.Authority.{AuthorityValue, spell_authority}
use Rattle.iref_grammar.specs.Grammar.{at_sign, colon, hash_sign, question_mark, slash}
use Rattle.iref_grammar.specs.{PathValue.{PathValue, spell_path}, Reference.{ReferenceValue, read_reference, spell}}
use Rattle.iref_grammar.specs.{Rules.{Text}, Texts.{part_then, then_part}}
use Rattle.iref_grammar.proofs.ReferenceCutLemmas.{read_reference-spelled}
use Rattle.iref_grammar.specs.{AuthorityKey.{authority_key}, Key.{key}, NormalList.{normal_segments}, PathKey.{path_key}}
use Rattle.iref_path.specs.Spelling.{each_closed}
use Rattle.iref_path.proofs.SpellLemmas.{length-join, normal_size, size-cons}
use Rattle.iref_canonical.specs.SortKey.{sort_authority, sort_byte, sort_item, sort_key, sort_list, sort_option, sort_text}
use Rattle.iref_canonical.proofs.{KeptPartLemmas.{length-sort_key}, SortByteLemmas.{length-sort_authority}}
use Rattle.iref_canonical.proofs.SortPutLemmas.{lower_size}

-- ---- texts

bytes_size : (text : Text) → length (flat_map sort_byte text) ≤ 2 * length text
bytes_size [] = omega arith
bytes_size (b ∷ text) = grind (arith, nat_tests, length-append, bytes_size text)

text_size : (text : Text) → length (sort_text text) ≤ 2 * length text + 1
unfolding sort_text
text_size text = omega (arith, bytes_size text, length-append (flat_map sort_byte text) (0 ∷ []))

decoded_size : (text : Text) → length (sort_text (percent_decode text)) ≤ 2 * length text + 1
decoded_size text = omega (arith, text_size (percent_decode text), (length-percent_decode text).0)

-- ---- parts, each with its delimiter

raw_before : (mark : ℕ) (part : Option Text) → length (sort_option sort_text part) ≤ 2 * length (part_then (mark ∷ []) part) + 1
raw_before mark None = omega arith
raw_before mark (Some text) = omega (arith, text_size text, length-append text (mark ∷ []))

raw_behind : (mark : ℕ) (part : Option Text) → length (sort_option sort_text part) ≤ 2 * length (then_part (mark ∷ []) part) + 1
raw_behind mark None = omega arith
raw_behind mark (Some text) = omega (arith, text_size text, length-append (mark ∷ []) text)

decoded_before : (mark : ℕ) (part : Option Text) → length (sort_option sort_text (option_map percent_decode part)) ≤ 2 * length (part_then (mark ∷ []) part) + 1
decoded_before mark None = omega arith
decoded_before mark (Some text) = omega (arith, decoded_size text, length-append text (mark ∷ []))

decoded_behind : (mark : ℕ) (part : Option Text) → length (sort_option sort_text (option_map percent_decode part)) ≤ 2 * length (then_part (mark ∷ []) part) + 1
decoded_behind mark None = omega arith
decoded_behind mark (Some text) = omega (arith, decoded_size text, length-append (mark ∷ []) text)

-- ---- an authority

authority_size : (a : AuthorityValue) → length (sort_authority (authority_key a)) ≤ 2 * length (spell_authority a) + 3
unfolding spell_authority
authority_size a =
    let user = part_then (at_sign ∷ []) a.user_info in
    let port = then_part (colon ∷ []) a.port in
    let all : length ((user ++ a.host) ++ port) ≡ length user + length a.host + length port = grind (arith, length-append) in
    omega (arith, length-sort_authority (authority_key a), decoded_before at_sign a.user_info, decoded_size a.host, raw_behind colon a.port)

authority_behind : (a : Option AuthorityValue)
    → length (sort_option sort_authority (option_map authority_key a)) ≤ 2 * length (then_part (codes "//") (option_map spell_authority a)) + 1
authority_behind None = omega arith
authority_behind (Some a) = omega (arith, authority_size a, length-append (codes "//") (spell_authority a))

-- ---- a path

items_size : (list : List Text) → length (flat_map sort_item (map percent_decode list)) ≤ 2 * length (each_closed list)
items_size [] = omega arith
items_size (s ∷ list) =
    omega (arith, decoded_size s, items_size list, size-cons s list, length-append (sort_text (percent_decode s)) (flat_map sort_item (map percent_decode list)))

path_size : (p : PathValue) → 1 + length (sort_list sort_item (path_key p).segments) ≤ 2 * length (spell_path p) + 6
unfolding path_key spell_path
path_size p =
    let list = normal_segments p in
    let root = if p.absolute then slash ∷ [] else [] in
    omega (arith, items_size list, normal_size p, length-join p.segments, length-append root (join_with_byte slash p.segments), length-append (flat_map sort_item (map percent_decode list)) (0 ∷ []))

-- ---- all

key_size : (r : ReferenceValue) → length (sort_key (key r)) ≤ 2 * length (spell r) + 10
unfolding key spell
key_size r =
    let scheme = part_then (colon ∷ []) r.scheme in
    let authority = then_part (codes "//") (option_map spell_authority r.authority) in
    let path = spell_path r.path in
    let query = then_part (question_mark ∷ []) r.query in
    let fragment = then_part (hash_sign ∷ []) r.fragment in
    let all : length (scheme ++ authority ++ path ++ query ++ fragment) ≡ length scheme + length authority + length path + length query + length fragment = grind (arith, length-append) in
    omega (arith, length-sort_key (key r), lower_size r.scheme, raw_before colon r.scheme, authority_behind r.authority, path_size r.path, decoded_behind question_mark r.query, decoded_behind hash_sign r.fragment)

pub sort_key_size : (bytes : Text) → length (sort_key (key (read_reference bytes))) ≤ 2 * length bytes + 10
sort_key_size bytes = omega (arith, key_size (read_reference bytes), ap length (read_reference-spelled bytes))

pub ruleset sizes = (sort_key_size)
