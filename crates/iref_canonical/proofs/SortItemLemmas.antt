-- The items of a path in sort keys, the last first.
use Rattle.std.proofs.Common.{arith, ◌≡◌, ℕ, ◌+◌, ◌++◌, ◌∷◌, [], List, length, refl, sym, ◌∙◌, ap, true, None, length-append, map, Bool, false, cond, ◌==◌}
use Rattle.std.proofs.{lemmas.List.{append-nil, map-append}, lemmas.Grind.{flat_map-append}}
use Rattle.std.proofs.{lemmas.Bool.{and_from, and_parts}, lemmas.List.Folds.{list_all-append}}
use Rattle.std.specs.List.{flat_map, list_all, onto_first}
use Rattle.percent_encoding.specs.Percent.{percent_decode}
use Rattle.iref_grammar.specs.{Grammar.{slash}, Rules.{Text}, Texts.{pieces_at}}
use Rattle.iref_grammar.specs.PathValue.{PathValue, is_one_empty, read_path, segments_of}
use Rattle.iref_grammar.specs.PathKey.{path_key}
use Rattle.iref_parse.specs.Dots.{is_some_dotted, has_dotted_segment}
use Rattle.iref_path.specs.Spelling.{each_closed}
use Rattle.iref_path.proofs.DotlessLemmas.{both_size, normal_segments-dotless, whole_text}
use Rattle.iref_canonical.specs.{SortKey.{sort_item, sort_text}, SortBytes.{is_kept_byte, is_kept}, SortItems.{AreKept}}
use Rattle.iref_canonical.proofs.SortByteLemmas.{kept_sorted, kept_decodes}

sorted_last : (rest : List Text) (x : Text) → flat_map sort_item (rest ++ x ∷ []) ≡ flat_map sort_item rest ++ (1 ∷ sort_text x)
sorted_last rest x = flat_map-append sort_item rest (x ∷ []) ∙ ap (λ t. flat_map sort_item rest ++ t) (append-nil (1 ∷ sort_text x))

-- what the last item decodes to is put first
pub decoded_last : (all rest : List Text) (x : Text) → all ≡ rest ++ x ∷ [] → flat_map sort_item (map percent_decode all) ≡ flat_map sort_item (map percent_decode rest) ++ (1 ∷ sort_text (percent_decode x))
decoded_last all rest x e = ap (λ l. flat_map sort_item (map percent_decode l)) e ∙ ap (flat_map sort_item) (map-append percent_decode rest (x ∷ [])) ∙ sorted_last (map percent_decode rest) (percent_decode x)

-- ---- segments whose bytes are written as they are

pub last_kept : (all rest : List Text) (x : Text) → AreKept all → all ≡ rest ++ x ∷ [] → (AreKept rest) × (is_kept x ≡ true)
last_kept all rest x h e =
    let both = and_parts (list_all is_kept rest) (list_all is_kept (x ∷ [])) (sym (list_all-append is_kept rest (x ∷ [])) ∙ ap (list_all is_kept) (sym e) ∙ h) in
    (both.0, (and_parts (is_kept x) true both.1).0)

pub kept_last : (all rest : List Text) (x : Text) → AreKept all → all ≡ rest ++ x ∷ [] → flat_map sort_item all ≡ flat_map sort_item rest ++ (1 ∷ sort_text (percent_decode x))
kept_last all rest x h e = ap (flat_map sort_item) e ∙ sorted_last rest x ∙ ap (λ t. flat_map sort_item rest ++ (1 ∷ sort_text t)) (sym (kept_decodes x (last_kept all rest x h e).1))

closed_size : (list : List Text) → AreKept list → length (flat_map sort_item list) ≡ length (each_closed list) + length list
closed_size [] h = refl
closed_size (s ∷ list) h =
    let both = and_parts (is_kept s) (list_all is_kept list) h in
    let one = ap length (kept_sorted s both.0) ∙ length-append s (0 ∷ []) in
    let rest = closed_size list both.1 in
    grind (arith, length-append)

pub kept_size : (text : Text) → AreKept (pieces_at slash text) → length (flat_map sort_item (pieces_at slash text)) ≡ length text + length (pieces_at slash text) + 1
kept_size text h =
    let list = pieces_at slash text in
    let size = closed_size list h in
    let all = both_size None text in
    omega arith

-- ---- a path without escapes and dot segments

record IsPlainList (items : List Text) : Type 0 where
  kept : AreKept items
  dotless : is_some_dotted items ≡ false
  many : is_one_empty items ≡ false

onto_kept : (c : ℕ) (list : List Text) → is_kept_byte c ≡ true → AreKept list → AreKept (onto_first c list)
onto_kept c [] h k = and_from (is_kept (c ∷ [])) true (and_from (is_kept_byte c) true h refl) refl
onto_kept c (p ∷ ps) h k =
    let both = and_parts (is_kept p) (list_all is_kept ps) k in
    and_from (is_kept (c ∷ p)) (list_all is_kept ps) (and_from (is_kept_byte c) (is_kept p) h both.0) both.1

pub kept_pieces : (text : Text) → is_kept text ≡ true → AreKept (pieces_at slash text)
kept_pieces [] h = refl
kept_pieces (c ∷ cs) h =
    let both = and_parts (is_kept_byte c) (is_kept cs) h in
    let rest = kept_pieces cs both.1 in
    by (c == slash) rest (onto_kept c (pieces_at slash cs) both.0 rest)
  where
    by : (b : Bool) → AreKept (pieces_at slash cs) → AreKept (onto_first c (pieces_at slash cs)) → AreKept (cond b ([] ∷ pieces_at slash cs) (onto_first c (pieces_at slash cs)))
    by true k l = k
    by false k l = l

plain_segments : (text : Text) → is_kept text ≡ true → has_dotted_segment text ≡ false → IsPlainList (segments_of text)
plain_segments [] h k = record { kept = refl; dotless = refl; many = refl }
plain_segments (c ∷ cs) h k = record { kept = kept_pieces (c ∷ cs) h; dotless = k; many = whole_text c cs }

plain_path : (path : Text) → is_kept path ≡ true → has_dotted_segment path ≡ false → IsPlainList (read_path path).segments
unfolding read_path
plain_path [] h k = record { kept = refl; dotless = refl; many = refl }
plain_path (c ∷ cs) h k = by (c == slash) k
  where
    by : (b : Bool) → is_some_dotted (cond b ([] ∷ pieces_at slash cs) (onto_first c (pieces_at slash cs))) ≡ false
        → IsPlainList (cond {A = PathValue} b (record { absolute = true; segments = segments_of cs }) (record { absolute = false; segments = pieces_at slash (c ∷ cs) })).segments
    by true d = plain_segments cs (and_parts (is_kept_byte c) (is_kept cs) h).1 d
    by false d = plain_segments (c ∷ cs) h k

decoded_items : (list : List Text) → AreKept list → map percent_decode list ≡ list
decoded_items [] h = refl
decoded_items (s ∷ list) h =
    let both = and_parts (is_kept s) (list_all is_kept list) h in
    λ i. kept_decodes s both.0 i ∷ decoded_items list both.1 i

pub kept_path : (path : Text) → is_kept path ≡ true → has_dotted_segment path ≡ false → AreKept (read_path path).segments
kept_path path h k = (plain_path path h k).kept

pub kept_key : (path : Text) → is_kept path ≡ true → has_dotted_segment path ≡ false → (path_key (read_path path)).segments ≡ (read_path path).segments
unfolding path_key
kept_key path h k =
    let p = read_path path in
    let plain = plain_path path h k in
    ap (map percent_decode) (normal_segments-dotless p plain.dotless ∙ ap (λ b. cond b [] p.segments) plain.many) ∙ decoded_items p.segments plain.kept

pub ruleset kept_lasts = (last_kept, kept_last)
