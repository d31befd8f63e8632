-- A path that is rewritten over its own bytes.
use Rattle.std.proofs.Common.{◌≡◌, ℕ, ◌+◌, ◌-◌, ◌<◌, ◌≤◌, Bool, true, false, cond, ◌&&◌, List, [], ◌∷◌, ◌++◌, length, take, drop, refl, sym, ap, append_assoc, length-take, arith, rules, ◌==◌, slice_range, slice_set, codes, true≢false}
use Rattle.std.proofs.{lemmas.Bool.Decides.{nat_tests}, lemmas.Grind.{common_steps}}
use Rattle.std.proofs.lemmas.List.{drop-take, drop_all, take_all, take_rest, take-take, places, same_lists, drop-set, length-set}
use Rattle.std.specs.List.{join_with_byte, copy_within, splice}
use mir.Val.{bool_byte}
use borrow.Rule.Slice.PartMut.{put_mid}
use Rattle.memchr.specs.Find.{NoneAfter, Passes, is_byte}
use Rattle.iref_grammar.specs.{Rules.{Text}, Grammar.{slash}, Texts.{pieces_at}, PathValue.{read_path, segments_of}}
use Rattle.iref_grammar.specs.NormalList.{is_name, ends_in_dots, normal_segments, without_lone_empty}
use Rattle.iref_grammar.specs.NormalReading.{items, open_before, staying_before, leading_parents, closing}
use Rattle.iref_grammar.proofs.ItemLemmas.{ends-last, normal_segments-is}
use Rattle.iref_grammar.proofs.StayingLemmas.{open_before-append, staying_before-append}
use Rattle.iref_path.specs.{Rewriting.{pieces_before}, Slashes.{IsLastSlash}, Spelling.{each_closed}}
use Rattle.iref_path.proofs.SlashLemmas.{pieces-cut_last, read-absolute, read-relative, lacks_by_index, pieces-whole}
use Rattle.iref_path.proofs.{SpellLemmas.{each_closed-append, joined_before}, WrittenLemmas.{to_end}}

-- the segments before an index depend on the text before it alone
pub pieces_before-same : (new old : Text) (index : ℕ) → take index new ≡ take index old → pieces_before new index ≡ pieces_before old index
pieces_before-same new old index e = grind (arith, take-take (index - 1) index new, take-take (index - 1) index old)

-- ---- the last segment

pub segment_found : (bytes hay : Text) (end k : ℕ) → 0 < end → hay ≡ take (end - 1) bytes → NoneAfter (Passes (is_byte slash) hay) 0 (length hay) k → Passes (is_byte slash) hay k
    → pieces_before bytes end ≡ pieces_before bytes (k + 1) ++ slice_range bytes (k + 1) (end - 1) ∷ []
segment_found bytes hay end k some e h here =
    let last : IsLastSlash hay k = record { within = h.high; slash_there = grind (arith, nat_tests); behind = λ i after within e. h.after i (omega arith) within (ap (λ c. c == slash) e) } in
    let front : take k hay ≡ take k bytes = grind (arith, take-take, length-take) in
    let back : drop (k + 1) hay ≡ slice_range bytes (k + 1) (end - 1) = grind (arith, drop-take (k + 1) (end - 1 - (k + 1)) bytes, length-take) in
    grind (arith, pieces-cut_last hay k last)

-- ---- one segment more

pub copied : (bytes : Text) (from to start : ℕ) → from ≤ to → to ≤ length bytes → start + (to - from) ≤ length bytes → drop start (copy_within bytes from to start) ≡ take (to - from) (drop from bytes) ++ drop (start + (to - from)) bytes
copied bytes from to start h k l = same_lists _ _ (search (rules, places)) (λ j d m. grind (arith, places))

pub before_set : (bytes : Text) (from to index : ℕ) → from ≤ to → to ≤ index → index < length bytes → take (to - from) (drop from (slice_set bytes index slash)) ≡ slice_range bytes from to
before_set bytes from to index h k l = same_lists _ _ (search (rules, places)) (λ j d m. grind (arith, places))

-- what is written of one segment
pub one_size : (s : Text) (n : ℕ) → length (each_closed (staying_before (s ∷ []) n)) ≤ length s + 1
one_size s n = grind (arith, common_steps)

-- ---- the list

pub one_last : (front : List Text) (s : Text) → staying_before (front ++ s ∷ []) 0 ++ closing (ends_in_dots (front ++ s ∷ [])) ≡ staying_before front (open_before (s ∷ []) 0) ++ cond (is_name s) s [] ∷ []
one_last front s = grind (arith, common_steps, staying_before-append, ends-last)

-- what is written of a list: the `..`, the names that stay, and the last if it does
pub list_written : (absolute : Bool) (front : List Text) (s tail : Text) (n : ℕ) → n ≡ open_before (s ∷ []) 0 → tail ≡ cond (is_name s) s []
    → join_with_byte slash (items (record { absolute = absolute; segments = front ++ s ∷ [] }))
    ≡ each_closed (leading_parents absolute (open_before front n)) ++ (each_closed (staying_before front n) ++ tail)
list_written absolute front s tail n e f =
    let parents = leading_parents absolute (open_before front n) in
    let kept = staying_before front n in
    grind (arith, open_before-append front (s ∷ []) 0, one_last front s, joined_before (parents ++ kept) tail, append_assoc, each_closed-append parents kept)

-- the same of the bytes of a list
pub listed : (absolute : Bool) (bytes : Text) (last end n : ℕ) (stays : Bool) → let s = slice_range bytes last (length bytes) in
    pieces_before bytes (length bytes + 1) ≡ pieces_before bytes last ++ slice_range bytes last (length bytes + 1 - 1) ∷ [] → stays ≡ is_name s && (0 == 0) → n ≡ open_before (s ∷ []) 0 → end ≡ cond stays last (length bytes)
    → join_with_byte slash (items (record { absolute = absolute; segments = pieces_at slash bytes }))
    ≡ each_closed (leading_parents absolute (open_before (pieces_before bytes last) n)) ++ (each_closed (staying_before (pieces_before bytes last) n) ++ drop end bytes)
listed absolute bytes last end n stays split stay open_is end_is = grind (arith, common_steps, take_all, take_rest, list_written, drop_all)

-- ---- the path

pub join-lone : (list : List Text) → join_with_byte slash (without_lone_empty list) ≡ join_with_byte slash list
join-lone [] = refl
join-lone (s ∷ list) = grind (arith, common_steps)

pub join-segments : (absolute : Bool) (text : Text) → join_with_byte slash (items (record { absolute = absolute; segments = segments_of text })) ≡ join_with_byte slash (items (record { absolute = absolute; segments = pieces_at slash text }))
join-segments true [] = refl
join-segments false [] = refl
join-segments absolute (c ∷ text) = refl

read_by_root : (path : Text) (absolute : Bool) → (absolute ≡ true → path ≡ codes "/" ++ drop 1 path) → ((rest : Text) → path ≡ codes "/" ++ rest → absolute ≡ true)
    → read_path path ≡ record { absolute = absolute; segments = segments_of (drop (cond absolute 1 0) path) }
read_by_root path true h k = read-absolute path (drop 1 path) (segments_of (drop 1 path)) (h refl) refl
read_by_root path false h k = read-relative path (segments_of path) (λ rest e. true≢false (sym (k rest e))) refl

-- the segments of a path stand behind its root
pub list_in_path : (path : Text) (absolute : Bool) (root : ℕ) → (absolute ≡ true → path ≡ codes "/" ++ drop 1 path) → ((rest : Text) → path ≡ codes "/" ++ rest → absolute ≡ true) → root ≡ cond absolute 1 0
    → join_with_byte slash (normal_segments (read_path path)) ≡ join_with_byte slash (items (record { absolute = absolute; segments = pieces_at slash (take (length path - root) (drop root path)) }))
list_in_path path absolute root h k e = grind (arith, read_by_root path absolute h k, normal_segments-is, join-lone, join-segments, take_rest)

pub root_is : (absolute : Bool) → bool_byte absolute ≡ cond absolute 1 0
root_is absolute = grind arith

pub behind_root : (path new : Text) (root start : ℕ) → root ≤ length path → length new ≡ length path - root → drop (root + start) (put_mid root (length path - root) path new) ≡ drop start new
behind_root path new root start h e = same_lists _ _ (search (rules, places)) (λ j d l. search (rules, places))

-- what is not used of a part's range goes
pub unused_cut : (bytes new text : Text) (start end unused : ℕ) → start ≤ end → end ≤ length bytes → length new ≡ end - start → unused ≤ end - start → drop unused new ≡ text
    → splice (put_mid start (end - start) bytes new) start (start + unused) [] ≡ splice bytes start end text
unused_cut bytes new text start end unused h k e l w = rw (sym w) (same_lists _ _ (search (rules, places)) (λ j d m. grind (arith, places)))

pub ruleset moved = (drop-set, length-set, copied, before_set)

pub ruleset found_before = (segment_found, lacks_by_index, pieces-whole)

pub ruleset names_moved = (one_size, pieces_before-same, open_before-append, staying_before-append, each_closed-append)

pub ruleset cut_to_text = (unused_cut, to_end)
