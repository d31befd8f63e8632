-- Where the components of a mapping stand.
use Rattle.std.proofs.Common.{arith, ◌≡◌, ℕ, ◌+◌, true, [], ◌∷◌, ◌++◌, length, refl, sym, ◌∙◌, ap, append_assoc, codes, Option, Some, None, option_map}
use Rattle.std.proofs.{lemmas.Grind.{common_steps}, lemmas.List.{append-nil, length-append}}
use Rattle.std.specs.{List.{list_all}, Char.{is_ascii}}
use Rattle.iref_grammar.specs.{Characters.{CharTests, AreAboveAscii}, Rules.{Text, InUtf8}}
use Rattle.iref_grammar.specs.{Grammar.{hash_sign, colon, question_mark, IsUriReference}, Texts.{part_then, then_part}}
use Rattle.iref_grammar.specs.{Authority.{spell_authority}, PathValue.{spell_path}, Reference.{ReferenceValue, spell}}
use Rattle.iref_grammar.specs.ComponentOffsets.{range_from, authority_mark, path_start, query_mark, fragment_mark, offsets_in, offsets_of}
use Rattle.iref_grammar.proofs.ReferenceCutLemmas.{read_reference-spelled}
use Rattle.iref_grammar.specs.Mapping.{mapped, mapped_index, mapped_reference, mapped_range, mapped_offsets}
use Rattle.iref_grammar.proofs.MappedLemmas.{mapped-nil, mapped-append, mapped-ascii}
use Rattle.iref_grammar.proofs.MappedSpellingLemmas.{part_then-mapped, then_part-mapped, spell_path-mapped, authority_text-mapped}
use Rattle.iref_grammar.proofs.MappedReferenceLemmas.{read_reference-mapped}

-- an index at the end of a front
index_seam : (front back text : Text) (n : ℕ) → front ++ back ≡ text → n ≡ length front → mapped_index text n ≡ length (mapped front)
index_seam front back text n spelled at = grind (arith, common_steps)

-- a part between two
range_seam : (front part back text : Text) (start : ℕ) → front ++ (part ++ back) ≡ text → start ≡ length front → mapped_range text (range_from start part) ≡ range_from (length (mapped front)) (mapped part)
range_seam front part back text start spelled at =
    let first = index_seam front (part ++ back) text start spelled at in
    let last = index_seam (front ++ part) back text (start + length part) (append_assoc front part back ∙ spelled) (ap (λ n. n + length part) at ∙ sym (length-append front part))
    ∙ ap length (mapped-append front part) ∙ length-append (mapped front) (mapped part) in
    λ i. record { start = first i; end = last i }

-- a delimiter and the part after it, if there is one
range_after : (front mark : Text) → list_all is_ascii mark ≡ true → (o : Option Text) (back text : Text) (start : ℕ) → front ++ (then_part mark o ++ back) ≡ text → start ≡ length front + length mark
    → option_map (mapped_range text) (option_map (range_from start) o) ≡ option_map (range_from (length (mapped front) + length mark)) (option_map mapped o)
range_after front mark low None back text start spelled at = refl
range_after front mark low (Some part) back text start spelled at =
    ap (λ r. Some r)
    (range_seam (front ++ mark) part back text start (append_assoc front mark (part ++ back) ∙ ap (λ t. front ++ t) (sym (append_assoc mark part back)) ∙ spelled) (at ∙ sym (length-append front mark))
    ∙ ap (λ n. range_from n (mapped part)) (ap length (mapped-append front mark) ∙ length-append (mapped front) (mapped mark) ∙ ap (λ t. length (mapped front) + length t) (mapped-ascii mark low)))

-- a part and the delimiter after it, if there is one, at the start
range_before : (mark : Text) (o : Option Text) (back text : Text) → part_then mark o ++ back ≡ text
    → option_map (mapped_range text) (option_map (range_from 0) o) ≡ option_map (range_from 0) (option_map mapped o)
range_before mark None back text spelled = refl
range_before mark (Some part) back text spelled = grind (arith, common_steps, range_seam, append_assoc, mapped-nil)

-- how long mappings in a row are
long_two : (a b : Text) → length (mapped (a ++ b)) ≡ length (mapped a) + length (mapped b)
long_two a b = ap length (mapped-append a b) ∙ length-append (mapped a) (mapped b)

module _ (r : ReferenceValue) where
  abbrev s : Text
  s = part_then (colon ∷ []) r.scheme

  abbrev a : Text
  a = then_part (codes "//") (option_map spell_authority r.authority)

  abbrev p : Text
  p = spell_path r.path

  abbrev q : Text
  q = then_part (question_mark ∷ []) r.query

  abbrev f : Text
  f = then_part (hash_sign ∷ []) r.fragment

  -- the delimiters of the mapping
  authority_mark-mapped : authority_mark (mapped_reference r) ≡ length (mapped s)
  authority_mark-mapped = ap length (part_then-mapped (colon ∷ []) refl r.scheme)

  path_start-mapped : path_start (mapped_reference r) ≡ length (mapped (s ++ a))
  path_start-mapped = grind (arith, common_steps, authority_mark-mapped, authority_text-mapped, then_part-mapped, long_two)

  query_mark-mapped : query_mark (mapped_reference r) ≡ length (mapped (s ++ a ++ p))
  query_mark-mapped = (λ i. path_start-mapped i + length (spell_path-mapped r.path i)) ∙ sym (long_two (s ++ a) p)

  fragment_mark-mapped : fragment_mark (mapped_reference r) ≡ length (mapped (s ++ a ++ p ++ q))
  fragment_mark-mapped = (λ i. query_mark-mapped i + length (then_part-mapped (question_mark ∷ []) refl r.query i)) ∙ sym (long_two (s ++ a ++ p) q)

  query_begins : query_mark r ≡ length (s ++ a ++ p)
  query_begins = sym (length-append (s ++ a) p ∙ ap (λ n. n + length p) (length-append s a))

  fragment_begins : fragment_mark r ≡ length (s ++ a ++ p ++ q)
  fragment_begins = sym (length-append (s ++ a ++ p) q ∙ ap (λ n. n + length q) (sym query_begins))

  pub offsets_in-mapped : offsets_in (mapped_reference r) ≡ mapped_offsets (spell r) (offsets_in r)
  unfolding offsets_in spell
  offsets_in-mapped =
      let scheme = range_before (colon ∷ []) r.scheme (a ++ p ++ q ++ f) (spell r) (simp append_assoc) in
      let authority = range_after s (codes "//") refl (option_map spell_authority r.authority) (p ++ q ++ f) (spell r) (authority_mark r + 2) (simp append_assoc) refl in
      let path = range_seam (s ++ a) p (q ++ f) (spell r) (path_start r) (simp append_assoc) (sym (length-append s a)) in
      let query = range_after (s ++ a ++ p) (question_mark ∷ []) refl r.query f (spell r) (query_mark r + 1) (simp append_assoc) (ap (λ n. n + 1) query_begins) in
      let fragment = range_after (s ++ a ++ p ++ q) (hash_sign ∷ []) refl r.fragment [] (spell r) (fragment_mark r + 1)
      (simp (append_assoc, append-nil)) (ap (λ n. n + 1) fragment_begins) in
      (λ i. record {
        scheme = option_map (range_from 0) (option_map mapped r.scheme);
        authority = option_map (range_from (authority_mark-mapped i + 2)) (authority_text-mapped r.authority i);
        path = range_from (path_start-mapped i) (spell_path-mapped r.path i);
        query = option_map (range_from (query_mark-mapped i + 1)) (option_map mapped r.query);
        fragment = option_map (range_from (fragment_mark-mapped i + 1)) (option_map mapped r.fragment);
      })
      ∙ (λ i. record { scheme = sym scheme i; authority = sym authority i; path = sym path i; query = sym query i; fragment = sym fragment i })

module _ (set : CharTests) (above : AreAboveAscii set) where
  pub offsets_of-mapped : (bytes : Text) → InUtf8 (IsUriReference set) bytes → offsets_of (mapped bytes) ≡ mapped_offsets bytes (offsets_of bytes)
  unfolding offsets_of
  offsets_of-mapped bytes h = grind (arith, common_steps, read_reference-mapped, offsets_in-mapped, read_reference-spelled)
