-- Sort keys of short texts whose bytes stand in them as they are: what they are, and that there is room.
use Rattle.std.proofs.Common.{arith, ◌≡◌, ℕ, ◌+◌, ◌*◌, ◌≤◌, ◌++◌, ◌∷◌, [], Bool, true, false, length, refl, sym, ◌∙◌, ap, append_assoc, cond, length-append, IfSome, codes, option_map, Option, None, Some, ◌&&◌, ◌==◌}
use Rattle.std.proofs.{lemmas.Bool.{and_parts}, lemmas.List.Splits.{length-slice_split}}
use Rattle.std.proofs.{lemmas.List.Sums.{count_by-le-length}, lemmas.List.{take_at}}
use Rattle.std.specs.{List.{flat_map}, Option.{option_copied}, Str.{str_to_ascii_lowercase}}
use Rattle.percent_encoding.specs.Percent.{percent_decode}
use Rattle.iref_grammar.specs.Authority.{AuthorityValue, read_authority, spell_authority}
use Rattle.iref_grammar.specs.ComponentTexts.{ComponentTexts, spell_components}
use Rattle.iref_grammar.specs.Grammar.{at_sign, colon, hash_sign, question_mark, slash}
use Rattle.iref_grammar.specs.PathValue.{PathValue, read_path, segments_of}
use Rattle.iref_grammar.specs.{Reference.{ReferenceValue, read_reference, spell}, Rules.{Text}, Tests.{none_or}}
use Rattle.iref_grammar.specs.Texts.{part_then, pieces_at, then_part}
use Rattle.iref_grammar.proofs.ReferenceCutLemmas.{read_reference-spelled}
use Rattle.iref_grammar.specs.{AuthorityKey.{authority_key}, Key.{key}, PathKey.{path_key}}
use Rattle.iref_parse.specs.{Dots.{has_dotted_segment}, ReferenceSlices.{texts_of, value_of}}
use Rattle.iref_parse.specs.declared.split.ReferenceSlices.{ReferenceSlices}
use Rattle.iref_canonical.specs.{SortBytes.{is_kept, are_kept_parts}, SortItems.{AreKept}}
use Rattle.iref_canonical.specs.SortKey.{sort_authority, sort_item, sort_key, sort_list, sort_option, sort_path, sort_text}
use Rattle.iref_canonical.specs.SortPuts.{AreKeptSlices, lowered, sorted_slices, spelled_slices}
use Rattle.iref_canonical.proofs.{SortByteLemmas.{kept_decodes}, SortCutLemmas.{kept_behind}}
use Rattle.iref_canonical.proofs.SortItemLemmas.{kept_key, kept_pieces, kept_size}
use Rattle.iref_canonical.proofs.SortPutLemmas.{all_size, kept_host, option_size, parts_size}
use Rattle.iref_canonical.proofs.KeptPartLemmas.{HasKeptParts, both_kept, parts_kept_in, text_kept}

-- ---- the key is the reference with its scheme in lower case

decoded_option : (o : Option Text) → none_or is_kept o ≡ true → option_map percent_decode o ≡ o
decoded_option None h = refl
decoded_option (Some text) h = ap Some (kept_decodes text h)

kept_user_info : (a : AuthorityValue) → are_kept_parts a ≡ true → none_or is_kept a.user_info ≡ true
kept_user_info a h = (and_parts (none_or is_kept a.user_info) (is_kept a.host) (and_parts (none_or is_kept a.user_info && is_kept a.host) (none_or is_kept a.port) h).0).0

decoded_authority : (o : Option AuthorityValue) → none_or are_kept_parts o ≡ true → option_map authority_key o ≡ o
decoded_authority None h = refl
decoded_authority (Some a) h = λ i. Some (record { user_info = decoded_option a.user_info (kept_user_info a h) i; host = kept_decodes a.host (kept_host a h) i; port = a.port })

kept_path_key : (path : Text) → is_kept path ≡ true → has_dotted_segment path ≡ false → path_key (read_path path) ≡ read_path path
unfolding path_key
kept_path_key path h k = λ i. record { absolute = (read_path path).absolute; segments = kept_key path h k i }

-- ---- there is room

option_room : (c : ℕ) (o : Option Text) → none_or is_kept o ≡ true → length (sort_option sort_text o) ≤ length (then_part (c ∷ []) o) + 1
option_room c None h = omega arith
option_room c (Some text) h = omega (arith, option_size (Some text) text refl h)

same_size : (c : ℕ) (o : Option Text) → length (part_then (c ∷ []) o) ≡ length (then_part (c ∷ []) o)
same_size c None = refl
same_size c (Some text) = grind (arith, length-append)

authority_room : (o : Option AuthorityValue) → none_or are_kept_parts o ≡ true → length (sort_option sort_authority o) ≤ length (then_part (codes "//") (option_map spell_authority o)) + 2
unfolding spell_authority
authority_room None h = omega arith
authority_room (Some a) h =
    let user = option_room at_sign a.user_info (kept_user_info a h) in
    let port = option_room colon a.port (and_parts (none_or is_kept a.user_info && is_kept a.host) (none_or is_kept a.port) h).1 in
    let text = length-append (part_then (at_sign ∷ []) a.user_info) (a.host ++ then_part (colon ∷ []) a.port) in
    grind (arith, length-append, parts_size a h, same_size at_sign a.user_info)

pieces_room : (text : Text) → AreKept (pieces_at slash text) → length (sort_list sort_item (pieces_at slash text)) ≤ 2 * length text + 3
pieces_room text h = omega (arith, kept_size text h, length-append (flat_map sort_item (pieces_at slash text)) (0 ∷ []), length-slice_split (λ c. c == slash) text, count_by-le-length (λ c. c == slash) text)

segments_room : (text : Text) → AreKept (segments_of text) → length (sort_list sort_item (segments_of text)) ≤ 2 * length text + 3
segments_room [] h = omega arith
segments_room (c ∷ cs) h = pieces_room (c ∷ cs) h

path_room : (path : Text) → AreKept (read_path path).segments → length (sort_list sort_item (read_path path).segments) ≤ 2 * length path + 3
unfolding read_path
path_room [] h = omega arith
path_room (c ∷ cs) h = by (c == slash) h
  where
    by : (b : Bool) → AreKept (cond {A = PathValue} b (record { absolute = true; segments = segments_of cs }) (record { absolute = false; segments = segments_of (c ∷ cs) })).segments
        → length (sort_list sort_item (cond {A = PathValue} b (record { absolute = true; segments = segments_of cs }) (record { absolute = false; segments = segments_of (c ∷ cs) })).segments) ≤ 2 * length (c ∷ cs) + 3
    by true k = omega (arith, segments_room cs k)
    by false k = segments_room (c ∷ cs) k

kept_segments : (path : Text) → is_kept path ≡ true → AreKept (read_path path).segments
unfolding read_path
kept_segments [] h = refl
kept_segments (c ∷ cs) h = by (c == slash) (some cs (kept_behind (c ∷ cs) h)) (kept_pieces (c ∷ cs) h)
  where
    some : (cs : Text) → is_kept cs ≡ true → AreKept (segments_of cs)
    some [] k = refl
    some (d ∷ ds) k = kept_pieces (d ∷ ds) k

    by : (b : Bool) → AreKept (segments_of cs) → AreKept (segments_of (c ∷ cs))
        → AreKept (cond {A = PathValue} b (record { absolute = true; segments = segments_of cs }) (record { absolute = false; segments = segments_of (c ∷ cs) })).segments
    by true k l = k
    by false k l = l

-- ---- slices of a short text

from_last : (a b c d e : Text) → a ++ b ++ c ++ d ++ e ≡ a ++ (b ++ (c ++ (d ++ e)))
from_last a b c d e = append_assoc (a ++ b ++ c) d e ∙ append_assoc (a ++ b) c (d ++ e) ∙ append_assoc a b (c ++ (d ++ e))

pub sorted_is : (s : ReferenceSlices) → sort_key (lowered (value_of s)) ≡ sorted_slices s
unfolding sort_key
sorted_is s =
    from_last (sort_option sort_text (option_map str_to_ascii_lowercase (option_copied s.scheme))) (sort_option sort_authority (option_map read_authority (option_copied s.authority))) (sort_path (read_path s.path.now))
    (sort_option sort_text (option_copied s.query))
    (sort_option sort_text (option_copied s.fragment))

module _ (text : Text) (s : ReferenceSlices) (value : value_of s ≡ read_reference text) (texts : texts_of s ≡ spell_components (read_reference text)) where
  pub spelled_is : text ≡ spelled_slices s
  unfolding spell
  spelled_is =
      sym (read_reference-spelled text)
      ∙ ap (λ (t : ComponentTexts). part_then (colon ∷ []) t.scheme ++ then_part (codes "//") t.authority ++ t.path ++ then_part (question_mark ∷ []) t.query ++ then_part (hash_sign ∷ []) t.fragment) (sym texts)
      ∙ from_last (part_then (colon ∷ []) (option_copied s.scheme)) (then_part (codes "//") (option_copied s.authority)) s.path.now (then_part (question_mark ∷ []) (option_copied s.query)) (then_part (hash_sign ∷ []) (option_copied s.fragment))

  module _ (all : is_kept text ≡ true) where
    kept : HasKeptParts (read_reference text)
    kept = text_kept text all

    pub slices_kept : AreKeptSlices s
    slices_kept = record {
      scheme = ap (λ (r : ReferenceValue). none_or is_kept r.scheme) value ∙ kept.scheme;
      authority = ap (λ (r : ReferenceValue). none_or are_kept_parts r.authority) value ∙ parts_kept_in (read_reference text).authority kept.authority;
      path = ap (λ (t : ComponentTexts). is_kept t.path) texts ∙ kept.path;
      query = ap (λ (r : ReferenceValue). none_or is_kept r.query) value ∙ kept.query;
      fragment = ap (λ (r : ReferenceValue). none_or is_kept r.fragment) value ∙ kept.fragment;
    }

    pub lowered_key : has_dotted_segment s.path.now ≡ false → lowered (value_of s) ≡ key (read_reference text)
    unfolding key
    lowered_key dotless =
        sym (λ i. record {
          scheme = option_map str_to_ascii_lowercase (option_copied s.scheme);
          authority = decoded_authority (value_of s).authority slices_kept.authority i;
          path = kept_path_key s.path.now slices_kept.path dotless i;
          query = decoded_option (option_copied s.query) slices_kept.query i;
          fragment = decoded_option (option_copied s.fragment) slices_kept.fragment i;
        })
        ∙ ap key value

    pub short_room : length text ≤ 96 → length (sorted_slices s) ≤ 208
    short_room short =
        let size = ap length (sym (sorted_is s)) ∙ all_size s (read_path s.path.now).absolute (read_path s.path.now).segments refl in
        let whole = ap length spelled_is in
        let scheme = option_room colon (option_copied s.scheme) slices_kept.scheme in
        let mark = same_size colon (option_copied s.scheme) in
        let authority = authority_room (value_of s).authority slices_kept.authority in
        let spelled : length (then_part (codes "//") (option_map spell_authority (value_of s).authority)) ≡ length (then_part (codes "//") (option_copied s.authority)) =
        ap (λ (r : ReferenceValue). length (then_part (codes "//") (option_map spell_authority r.authority))) value ∙ ap (λ (t : ComponentTexts). length (then_part (codes "//") t.authority)) (sym texts) in
        let path = path_room s.path.now (kept_segments s.path.now slices_kept.path) in
        let query = option_room question_mark (option_copied s.query) slices_kept.query in
        let fragment = option_room hash_sign (option_copied s.fragment) slices_kept.fragment in
        let parts : length (spelled_slices s)
        ≡ length (part_then (colon ∷ []) (option_copied s.scheme)) + length (then_part (codes "//") (option_copied s.authority)) + length s.path.now
        + length (then_part (question_mark ∷ []) (option_copied s.query))
        + length (then_part (hash_sign ∷ []) (option_copied s.fragment)) = grind (arith, length-append) in
        omega arith

pub both_if_some : {X : Type 0} (r : Option X) {P Q R : X → Type 0} → IfSome r P → IfSome r Q → ((x : X) → P x → Q x → R x) → IfSome r R
both_if_some None p q k = tt
both_if_some (Some x) p q k = k x p q

pub ruleset shorts = (both_if_some, lowered_key, short_room, slices_kept, sorted_is, spelled_is, both_kept, take_at)
