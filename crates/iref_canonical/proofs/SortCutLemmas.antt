-- A spelled text cut into its parts, as they are put into a sort key.
use Rattle.std.proofs.Common.{arith, ◌≡◌, ℕ, zero, suc, ◌+◌, ◌<◌, ◌≤◌, ◌++◌, ◌∷◌, [], true, false, ◌&&◌, length, take, drop, refl, sym, ◌∙◌, ap, append_assoc, length-append, length-take, not, get_or, get_or-take, cond, None, Some, ◌==◌, codes}
use Rattle.std.proofs.{lemmas.Bool.Decides.{nat_tests}, lemmas.Grind.{common_steps}, lemmas.Bool.{and_parts}}
use Rattle.std.proofs.{lemmas.List.{append-nil, drop_at}, lemmas.List.Sums.{prefix_len-le-length}}
use Rattle.std.specs.{Char.{char_set_contains}, List.{position_or_len}, Option.{option_copied}}
use Rattle.iref_grammar.specs.{Authority.{AuthorityValue, read_authority}, PathValue.{PathValue, read_path, segments_of}}
use Rattle.iref_grammar.specs.{Grammar.{at_sign, colon, hash_sign, question_mark, slash}, Rules.{Text}, Tests.{none_or}}
use Rattle.iref_grammar.specs.Texts.{lacks, part_then, then_part}
use Rattle.iref_parse.specs.declared.split.ReferenceSlices.{ReferenceSlices}
use Rattle.iref_parse.proofs.AuthorityLemmas.{without_marks}
use Rattle.iref_splice.specs.Changes.{with_mark}
use Rattle.iref_splice.proofs.PartLemmas.{first_len}
use Rattle.iref_canonical.specs.{Padded.{BeginsWith}, SortBytes.{is_kept, is_kept_byte, are_kept_parts}}
use Rattle.iref_canonical.specs.SortKey.{sort_authority, sort_option, sort_text}
use Rattle.iref_canonical.specs.SortPuts.{spelled_from_authority, spelled_from_path, spelled_slices, spelled_tail}
use Rattle.iref_canonical.proofs.{PaddedLemmas.{marked_rest, marked_size}, SortByteLemmas.{kept_sorted}}
use Rattle.iref_canonical.proofs.SortPutLemmas.{both_put, ends_put, joined_put, kept_host, length_in}

-- ---- components, one after the other

module _ (s : ReferenceSlices) (t : Text) where
  pub scheme_ends : t ≡ spelled_slices s → drop (with_mark 1 (option_copied s.scheme)) t ≡ spelled_from_authority s
  scheme_ends e =
      ap (drop (with_mark 1 (option_copied s.scheme))) e
      ∙ drop_at (part_then (colon ∷ []) (option_copied s.scheme)) (spelled_from_authority s) (with_mark 1 (option_copied s.scheme)) (sym (first_len colon (option_copied s.scheme)))

  pub scheme_size : t ≡ spelled_slices s → with_mark 1 (option_copied s.scheme) ≤ length t
  scheme_size e = omega (arith, first_len colon (option_copied s.scheme), ap length e, length-append (part_then (colon ∷ []) (option_copied s.scheme)) (spelled_from_authority s))

  pub authority_begins : t ≡ spelled_from_authority s → BeginsWith 2 (option_copied s.authority) t
  authority_begins e = record { delimiter = codes "//"; rest = spelled_from_path s; size = refl; split = e }

  pub path_begins : t ≡ spelled_from_path s → BeginsWith 0 (Some s.path.now) t
  path_begins e = record { delimiter = []; rest = spelled_tail s; size = refl; split = e }

  abbrev pub query_begins : t ≡ spelled_tail s → BeginsWith 1 (option_copied s.query) t
  query_begins e = record { delimiter = question_mark ∷ []; rest = then_part (hash_sign ∷ []) (option_copied s.fragment); size = refl; split = e }

  pub fragment_begins : t ≡ then_part (hash_sign ∷ []) (option_copied s.fragment) → BeginsWith 1 (option_copied s.fragment) t
  fragment_begins e = record { delimiter = hash_sign ∷ []; rest = []; size = refl; split = e ∙ sym (append-nil (then_part (hash_sign ∷ []) (option_copied s.fragment))) }

  -- what is left at the path
  pub path_left : (m n : ℕ) (u v : Text) → t ≡ spelled_slices s → m ≡ with_mark 1 (option_copied s.scheme) → u ≡ drop m t → n ≡ with_mark 2 (option_copied s.authority) → v ≡ drop n u
      → v ≡ spelled_from_path s
  path_left m n u v e first a second b =
      let left = a ∙ ap (λ k. drop k t) first ∙ scheme_ends e in
      let begins : BeginsWith 2 (option_copied s.authority) u = record { delimiter = codes "//"; rest = spelled_from_path s; size = refl; split = left } in
      b ∙ ap (λ k. drop k u) second ∙ marked_rest 2 (option_copied s.authority) u begins

-- ---- an authority

pub authority_is : (a : AuthorityValue) → are_kept_parts a ≡ true → sort_authority a ≡ sort_option sort_text a.user_info ++ ((a.host ++ 0 ∷ []) ++ sort_option sort_text a.port)
unfolding sort_authority
authority_is a h =
    append_assoc (sort_option sort_text a.user_info) (sort_text a.host) (sort_option sort_text a.port)
    ∙ ap (λ t. sort_option sort_text a.user_info ++ (t ++ sort_option sort_text a.port)) (kept_sorted a.host (kept_host a h))

pub kept_option : (a : AuthorityValue) → are_kept_parts a ≡ true → (none_or is_kept a.user_info ≡ true) × (none_or is_kept a.port ≡ true)
kept_option a h =
    let both = and_parts (none_or is_kept a.user_info && is_kept a.host) (none_or is_kept a.port) h in
    ((and_parts (none_or is_kept a.user_info) (is_kept a.host) both.0).0, both.1)

-- a host alone, in the bytes before the first of both marks
lacking_before : (m n : ℕ) (b : Text) → n ≤ position_or_len (char_set_contains (at_sign ∷ colon ∷ [])) (take m b) → (lacks at_sign (take n b) && lacks colon (take n b)) ≡ true
lacking_before m zero b h = grind (arith, common_steps)
lacking_before zero (suc n) b h = grind (arith, common_steps)
lacking_before (suc m) (suc n) [] h = refl
lacking_before (suc m) (suc n) (c ∷ cs) h = grind (arith, nat_tests, lacking_before m n cs)

pub lone_sorted : (n : ℕ) (b : Text) → n ≤ position_or_len (char_set_contains (at_sign ∷ colon ∷ [])) (take 16 b) → are_kept_parts (read_authority (take n b)) ≡ true
    → sort_authority (read_authority (take n b)) ≡ 0 ∷ (take n b ++ 0 ∷ 0 ∷ [])
unfolding sort_authority
lone_sorted n b h kept =
    let alone = without_marks (take n b) (lacking_before 16 n b h) in
    let host = kept_sorted (take n b) (kept_host (record { user_info = None; host = take n b; port = None }) (ap are_kept_parts (sym alone) ∙ kept)) in
    ap sort_authority alone ∙ ap (λ t. 0 ∷ (t ++ 0 ∷ [])) host ∙ ap (λ t. 0 ∷ t) (append_assoc (take n b) (0 ∷ []) (0 ∷ []))

pub within_block : (b : Text) → position_or_len (char_set_contains (at_sign ∷ colon ∷ [])) (take 16 b) ≤ 16
within_block b = grind (arith, length-take, prefix_len-le-length (λ c. not (char_set_contains (at_sign ∷ colon ∷ []) c)) (take 16 b))

-- ---- what is put of a path

pub kept_behind : (t : Text) → is_kept t ≡ true → is_kept (drop 1 t) ≡ true
kept_behind [] h = refl
kept_behind (c ∷ cs) h = (and_parts (is_kept_byte c) (is_kept cs) h).1

-- a path with a root
module _ (t : Text) (some : 0 < length t) (root : (get_or t 0 0 == slash) ≡ true) where
  pub rooted : read_path t ≡ record { absolute = true; segments = segments_of (drop 1 t) }
  unfolding read_path
  rooted = by t some root
    where
      by : (t : Text) → 0 < length t → (get_or t 0 0 == slash) ≡ true → read_path t ≡ record { absolute = true; segments = segments_of (drop 1 t) }
      by [] l h = grind arith
      by (c ∷ cs) l h = ap (λ b. cond {A = PathValue} b (record { absolute = true; segments = segments_of cs }) (record { absolute = false; segments = segments_of (c ∷ cs) })) h

pub rootless : (t : Text) → (0 < length t → (get_or t 0 0 == slash) ≡ false) → read_path t ≡ record { absolute = false; segments = segments_of t }
unfolding read_path
rootless [] h = refl
rootless (c ∷ cs) h = ap (λ b. cond {A = PathValue} b (record { absolute = true; segments = segments_of cs }) (record { absolute = false; segments = segments_of (c ∷ cs) })) (h (omega arith))

pub ruleset cuts = (scheme_ends, scheme_size, authority_begins, marked_rest, marked_size, length_in)

pub ruleset parts = (authority_is, kept_option, joined_put, both_put, length-append)

pub ruleset lone = (lone_sorted, within_block, ends_put, length_in, length-append)

pub ruleset paths = (rooted, rootless, joined_put, length_in, get_or-take)
