-- Sort keys put from the front.
use Rattle.std.proofs.Common.{arith, ◌≡◌, ℕ, ◌+◌, ◌<◌, ◌++◌, ◌∷◌, [], List, Bool, true, false, length, take, drop, refl, sym, ◌∙◌, ap, subst, cond, ◌&&◌, append_assoc, length-append, length-take, take_all, map, option_map, Option, Some, ◌==◌}
use Rattle.std.proofs.{lemmas.Bool.{and_parts}, lemmas.List.{append-nil, drop_all, length-map, map-append}}
use Rattle.std.specs.{List.{flat_map, list_all, onto_first}, Char.{to_ascii_lowercase}, Option.{option_copied}}
use Rattle.std.specs.Str.{str_to_ascii_lowercase}
use Rattle.iref_grammar.specs.{Authority.{AuthorityValue, read_authority}, Grammar.{slash}}
use Rattle.iref_grammar.specs.{PathValue.{PathValue, read_path, segments_of}, Rules.{Text}, Tests.{none_or}}
use Rattle.iref_grammar.specs.Texts.{pieces_at}
use Rattle.iref_parse.specs.{ReferenceSlices.{value_of}, declared.split.ReferenceSlices.{ReferenceSlices}}
use Rattle.iref_canonical.specs.{SortBytes.{is_kept_byte, is_kept, are_kept_parts}, SortItems.{AreKept}}
use Rattle.iref_canonical.specs.SortKey.{sort_authority, sort_item, sort_key, sort_list, sort_option, sort_text}
use Rattle.iref_canonical.specs.{SortPuts.{Puts, lowered, segment_bytes}, declared.padded.Padded.{Padded}}
use Rattle.iref_canonical.specs.Padded.{IsPadded, text_in}
use Rattle.iref_canonical.proofs.SortItemLemmas.{kept_pieces}
use Rattle.iref_canonical.proofs.SortByteLemmas.{kept_sorted, length-sort_authority, option-lower, sort_text-lower}
use Rattle.iref_canonical.proofs.KeptPartLemmas.{length-sort_key}

pub both_put : (front back : Text) {at mid end : ℕ} {old half new : Text} → Puts at front old half mid → Puts mid back half new end → Puts at (front ++ back) old new end
both_put front back h k = let r = h.range in let w = h.written in let s = k.range in let v = k.written in record { range = grind (arith, length-append); written = grind (arith, append_assoc); len = k.len ∙ h.len }

pub joined_put : (all front back : Text) {at mid end : ℕ} {old half new : Text} → Puts at front old half mid → Puts mid back half new end → all ≡ front ++ back → Puts at all old new end
joined_put all front back {at = at} {end = end} {old = old} {new = new} h k e = subst (λ t. Puts at t old new end) (sym e) (both_put front back h k)

-- a text between a byte before it and two behind
pub ends_put : (all text : Text) (x y z : ℕ) {at one two three end : ℕ} {old first second third new : Text} → Puts at (x ∷ []) old first one → Puts one text first second two
    → Puts two (y ∷ []) second third three → Puts three (z ∷ []) third new end → all ≡ x ∷ (text ++ y ∷ z ∷ []) → Puts at all old new end
ends_put all text x y z h k l m e = joined_put all (x ∷ []) (text ++ y ∷ z ∷ []) h (both_put text (y ∷ z ∷ []) k (both_put (y ∷ []) (z ∷ []) l m)) e

pub length_in : (p : Padded) → IsPadded p → length (text_in p) ≡ p.len
length_in p h = grind (arith, length-take)

-- ---- bytes one by one

-- of bytes some are put, and others are left
pub record IsPutting (at : ℕ) (all left old new : Text) (end : ℕ) : Type 0 where
  pub range : end + length left ≡ at + length all
  pub written : take end new ++ left ≡ take at old ++ all
  pub len : length new ≡ length old

pub one_put : (at : ℕ) (all before one left old half new : Text) (mid end : ℕ) → IsPutting at all before old half mid → Puts mid one half new end → before ≡ one ++ left → IsPutting at all left old new end
one_put at all before one left old half new mid end h k e =
    let r = h.range in let w = h.written in let s = k.range in let v = k.written in record { range = grind (arith, length-append); written = grind (arith, append_assoc); len = k.len ∙ h.len }

pub all_put : (at : ℕ) (all old new : Text) (end : ℕ) → IsPutting at all [] old new end → Puts at all old new end
all_put at all old new end h = let r = h.range in record { range = grind arith; written = sym (append-nil (take end new)) ∙ h.written; len = h.len }

-- ---- a text that may not be there

pub option_size : (o : Option Text) (text : Text) → o ≡ Some text → none_or is_kept o ≡ true → length (sort_option sort_text o) ≡ length text + 2
option_size o text e h =
    let kept = kept_sorted text (ap (none_or is_kept) (sym e) ∙ h) in
    let size = ap length kept ∙ length-append text (0 ∷ []) in
    ap (λ p. length (sort_option sort_text p)) e ∙ grind arith

pub option_put : (o : Option Text) (text : Text) {at mid end : ℕ} {old half new : Text} → o ≡ Some text → none_or is_kept o ≡ true
    → Puts at (1 ∷ []) old half mid → Puts mid (text ++ 0 ∷ []) half new end → Puts at (sort_option sort_text o) old new end
option_put o text {at = at} {end = end} {old = old} {new = new} e h k l =
    let kept = kept_sorted text (ap (none_or is_kept) (sym e) ∙ h) in
    subst (λ t. Puts at t old new end) (ap (λ t. 1 ∷ t) (sym kept) ∙ ap (sort_option sort_text) (sym e)) (both_put (1 ∷ []) (text ++ 0 ∷ []) k l)

-- ---- a scheme in lower case

pub lower_kept : (text : Text) → is_kept text ≡ true → sort_text (str_to_ascii_lowercase text) ≡ str_to_ascii_lowercase text ++ 0 ∷ []
lower_kept text h = sort_text-lower text ∙ ap (map to_ascii_lowercase) (kept_sorted text h) ∙ map-append to_ascii_lowercase text (0 ∷ [])

-- ---- an authority

pub kept_host : (a : AuthorityValue) → are_kept_parts a ≡ true → is_kept a.host ≡ true
kept_host a h = (and_parts (none_or is_kept a.user_info) (is_kept a.host) (and_parts (none_or is_kept a.user_info && is_kept a.host) (none_or is_kept a.port) h).0).1

pub parts_size : (a : AuthorityValue) → are_kept_parts a ≡ true
    → length (sort_authority a) ≡ length (sort_option sort_text a.user_info) + (length a.host + 1) + length (sort_option sort_text a.port)
parts_size a h =
    let host = ap length (kept_sorted a.host (kept_host a h)) ∙ length-append a.host (0 ∷ []) in
    length-sort_authority a ∙ ap (λ n. length (sort_option sort_text a.user_info) + n + length (sort_option sort_text a.port)) host

-- ---- the items of a path

sorted_pieces : (text : Text) → AreKept (pieces_at slash text) → flat_map sort_item (pieces_at slash text) ≡ 1 ∷ (segment_bytes text ++ 0 ∷ [])
unfolding sort_text
sorted_pieces [] h = refl
sorted_pieces (c ∷ cs) h = by (c == slash) (sorted_pieces cs) h
  where
    onto : (list : List Text) (t : Text) → AreKept (onto_first c list) → (AreKept list → flat_map sort_item list ≡ 1 ∷ t) → flat_map sort_item (onto_first c list) ≡ 1 ∷ (c ∷ t)
    onto [] t k e = let none = e refl in grind arith
    onto (p ∷ ps) t k e =
        let both = and_parts (is_kept (c ∷ p)) (list_all is_kept ps) k in
        let kept = (and_parts (is_kept_byte c) (is_kept p) both.0).1 in
        ap (λ s. 1 ∷ (s ++ flat_map sort_item ps)) (kept_sorted (c ∷ p) both.0) ∙ ap (λ s. 1 ∷ (c ∷ (s ++ flat_map sort_item ps))) (sym (kept_sorted p kept))
        ∙ ap (λ s. 1 ∷ (c ∷ drop 1 s)) (e (λ i. kept i && both.1 i))

    by : (b : Bool) → (AreKept (pieces_at slash cs) → flat_map sort_item (pieces_at slash cs) ≡ 1 ∷ (segment_bytes cs ++ 0 ∷ []))
        → AreKept (cond b ([] ∷ pieces_at slash cs) (onto_first c (pieces_at slash cs)))
        → flat_map sort_item (cond b ([] ∷ pieces_at slash cs) (onto_first c (pieces_at slash cs))) ≡ 1 ∷ ((cond b (0 ∷ 1 ∷ []) (c ∷ []) ++ segment_bytes cs) ++ 0 ∷ [])
    by true e k = ap (λ t. 1 ∷ (0 ∷ t)) (e k)
    by false e k = onto (pieces_at slash cs) (segment_bytes cs ++ 0 ∷ []) k e

pub sorted_segments : (text : Text) → 0 < length text → is_kept text ≡ true → sort_list sort_item (segments_of text) ≡ 1 ∷ (segment_bytes text ++ 0 ∷ 0 ∷ [])
sorted_segments [] l h = grind arith
sorted_segments (c ∷ cs) l h = ap (λ t. t ++ 0 ∷ []) (sorted_pieces (c ∷ cs) (kept_pieces (c ∷ cs) h)) ∙ ap (λ t. 1 ∷ t) (append_assoc (segment_bytes (c ∷ cs)) (0 ∷ []) (0 ∷ []))

-- ---- all

pub lower_size : (scheme : Option Text) → length (sort_option sort_text (option_map str_to_ascii_lowercase scheme)) ≡ length (sort_option sort_text scheme)
lower_size scheme = ap length (option-lower scheme) ∙ length-map (sort_option sort_text scheme) to_ascii_lowercase

pub all_size : (s : ReferenceSlices) (absolute : Bool) (items : List Text) → read_path s.path.now ≡ record { absolute = absolute; segments = items }
    → length (sort_key (lowered (value_of s)))
    ≡ length (sort_option sort_text (option_copied s.scheme)) + length (sort_option sort_authority (option_map read_authority (option_copied s.authority))) + (1 + length (sort_list sort_item items))
    + length (sort_option sort_text (option_copied s.query))
    + length (sort_option sort_text (option_copied s.fragment))
all_size s absolute items e =
    let scheme = lower_size (option_copied s.scheme) in
    let path = ap (λ (p : PathValue). length (sort_list sort_item p.segments)) e in
    let all = length-sort_key (lowered (value_of s)) in
    omega arith

pub ruleset puts = (all_put, both_put, option_put, option_size, lower_size, length-append, take_all, drop_all)

pub ruleset schemes = (lower_kept, joined_put, lower_size, option_size, length-append)

pub ruleset items = (sorted_segments, ends_put, length_in, length-append)
