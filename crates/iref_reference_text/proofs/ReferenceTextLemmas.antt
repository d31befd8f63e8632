-- A reference is cut between characters where its components begin and end.
use Rattle.std.proofs.Common.{◌≡◌, ℕ, ◌+◌, ◌<◌, zero, suc, slice_index, lit<, Bool, true, [], ◌∷◌, ◌++◌, length, take, IsUtf8, rules, refl, sym, ◌∙◌, ap, arith, append_assoc, codes, Option, Some, None, IfSome, option_map}
use Rattle.std.proofs.lemmas.Str.{IsCharBoundary-at_seam, IsUtf8-append, IsUtf8-nil, IsUtf8-from_ascii}
use Rattle.std.proofs.lemmas.List.{append-nil, length-append, places, same_lists}
use Rattle.std.specs.{Bool.{Decides}, Str.{IsCharBoundary}}
use Rattle.iref_grammar.specs.{Characters.{CharTests, AreAboveAscii}, Rules.{Text, Rule, InUtf8}}
use Rattle.iref_grammar.specs.Grammar.{colon, slash, question_mark, hash_sign}
use Rattle.iref_grammar.specs.{Texts.{before, after, part_then, then_part}, Tests.{none_or}}
use Rattle.iref_grammar.specs.{Authority.{spell_authority}, PathValue.{spell_path}}
use Rattle.iref_grammar.specs.Reference.{ReferenceValue, hierarchy, split_scheme, split_authority, spell, read_reference, is_reference}
use Rattle.iref_grammar.specs.ComponentTexts.{ComponentTexts, AreComponents, spell_components, read_components}
use Rattle.iref_grammar.specs.ComponentOffsets.{range_from, authority_mark, fragment_mark, offsets_in, offsets_of}
use Rattle.iref_grammar.proofs.LeafLemmas.{Decides-is_query, Decides-is_fragment}
use Rattle.iref_grammar.proofs.{PartRuleLemmas.{Decides-is_scheme_bytes}, AuthorityRuleLemmas.{Decides-is_authority}}
use Rattle.iref_grammar.proofs.PathTextLemmas.{Decides-is_path}
use Rattle.iref_grammar.proofs.ComponentLemmas.{Decides-AreComponents, spelled_as_read}
use Rattle.iref_grammar.proofs.RangeLemmas.{scheme_range, authority_range, path_range, query_range, fragment_range}
use Rattle.iref_grammar.proofs.ReferenceCutLemmas.{read_reference-spelled}
use Rattle.iref_grammar.proofs.FrontLemmas.{read_reference-before_hash, read_reference-hierarchy}
use Rattle.iref_reference_text.specs.ComponentLengths.{fragment_after, lengths_of, query_after}
use Rattle.iref_reference_text.specs.RangeTexts.{AreWithin, texts_at}
use Rattle.iref_reference_text.proofs.LengthLemmas.{fragment_after-lengths, query_after-lengths}
use Rattle.iref_splice.specs.Changes.{IsWithin}

-- what stands at the offsets of a text are its components
pub texts_at-offsets : (text : Text) → texts_at text (offsets_of text) ≡ spell_components (read_reference text)
texts_at-offsets text = grind (arith, scheme_range, authority_range, path_range, query_range, fragment_range)

-- the components of a text, as it is cut
abbrev cut_texts : Text → ComponentTexts
cut_texts text =
    let front = split_scheme (hierarchy text) in
    let middle = split_authority front.1 in
    record { scheme = front.0; authority = middle.0; path = middle.1; query = after question_mark (before (hash_sign ∷ []) text); fragment = after hash_sign text }

cut_texts-read : (text : Text) → read_components (cut_texts text) ≡ read_reference text
unfolding read_reference
cut_texts-read text = refl

pub read_components-spelled : (text : Text) → read_components (spell_components (read_reference text)) ≡ read_reference text
read_components-spelled text = ap read_components (sym (spelled_as_read (cut_texts text) _ (cut_texts-read text))) ∙ cut_texts-read text

-- a text between two others, of which the later is UTF-8
within : (text before part behind : Text) (start : ℕ) → before ++ (part ++ behind) ≡ text → start ≡ length before → IsUtf8 part → IsUtf8 behind → IsWithin text (range_from start part)
within text before part behind start spelled at u v = record {
  start_le_end = omega arith;
  start = rw at (IsCharBoundary-at_seam text before (part ++ behind) (sym spelled) (IsUtf8-append part behind u v));
  end = rw (at, ← length-append) (IsCharBoundary-at_seam text (before ++ part) behind (sym spelled ∙ sym (append_assoc before part behind)) v);
}

-- a part and the delimiter after it, if there is one, at the start
within_before : (mark : Text) (o : Option Text) (behind text : Text) → part_then mark o ++ behind ≡ text → IsUtf8 mark → IfSome o IsUtf8 → IsUtf8 behind → IfSome (option_map (range_from 0) o) (IsWithin text)
within_before mark None behind text e m u v = tt
within_before mark (Some part) behind text e m u v = within text [] part (mark ++ behind) 0 (sym (append_assoc part mark behind) ∙ e) refl u (IsUtf8-append mark behind m v)

-- a delimiter and the part after it, if there is one
within_after : (before mark : Text) (o : Option Text) (behind text : Text) (start : ℕ) → before ++ (then_part mark o ++ behind) ≡ text → start ≡ length before + length mark → IfSome o IsUtf8 → IsUtf8 behind
    → IfSome (option_map (range_from start) o) (IsWithin text)
within_after before mark None behind text start e at u v = tt
within_after before mark (Some part) behind text start e at u v = within text (before ++ mark) part behind start (simp append_assoc (simp append_assoc at e)) (at ∙ sym (length-append before mark)) u v

-- the delimiters are ASCII
utf8_mark : (c : ℕ) → c < 128 → IsUtf8 (c ∷ [])
utf8_mark c h = IsUtf8-from_ascii (c ∷ []) (λ i. ascii i)
  where
    ascii : (i : ℕ) → slice_index (c ∷ []) i < 128
    ascii zero = h
    ascii (suc i) = lit< tt

then_utf8 : (mark : Text) (o : Option Text) → IsUtf8 mark → IfSome o IsUtf8 → IsUtf8 (then_part mark o)
then_utf8 mark None m u = IsUtf8-nil
then_utf8 mark (Some part) m u = IsUtf8-append mark part m u

-- each component is UTF-8
pub record AreUtf8 (t : ComponentTexts) : Type 0 where
  scheme : IfSome t.scheme IsUtf8
  authority : IfSome t.authority IsUtf8
  path : IsUtf8 t.path
  query : IfSome t.query IsUtf8
  fragment : IfSome t.fragment IsUtf8

-- and so is what stands behind some of them
module _ (t : ComponentTexts) (u : AreUtf8 t) where
  fragment_utf8 : IsUtf8 (then_part (hash_sign ∷ []) t.fragment)
  fragment_utf8 = then_utf8 (hash_sign ∷ []) t.fragment (utf8_mark hash_sign (lit< tt)) u.fragment

  pub behind_path : IsUtf8 (then_part (question_mark ∷ []) t.query ++ then_part (hash_sign ∷ []) t.fragment)
  behind_path = IsUtf8-append _ _ (then_utf8 (question_mark ∷ []) t.query (utf8_mark question_mark (lit< tt)) u.query) fragment_utf8

  behind_authority : IsUtf8 (t.path ++ then_part (question_mark ∷ []) t.query ++ then_part (hash_sign ∷ []) t.fragment)
  behind_authority = rw append_assoc (IsUtf8-append _ _ u.path behind_path)

  behind_scheme : IsUtf8 (then_part (codes "//") t.authority ++ t.path ++ then_part (question_mark ∷ []) t.query ++ then_part (hash_sign ∷ []) t.fragment)
  behind_scheme =
      let slashes = IsUtf8-append (slash ∷ []) (slash ∷ []) (utf8_mark slash (lit< tt)) (utf8_mark slash (lit< tt)) in
      simp append_assoc (simp append_assoc at (IsUtf8-append _ _ (then_utf8 (codes "//") t.authority slashes u.authority) behind_authority))

module _ (r : ReferenceValue) (u : AreUtf8 (spell_components r)) where
  abbrev s : Text
  s = part_then (colon ∷ []) r.scheme

  abbrev a : Text
  a = then_part (codes "//") (option_map spell_authority r.authority)

  abbrev p : Text
  p = spell_path r.path

  abbrev q : Text
  q = then_part (question_mark ∷ []) r.query

  abbrev f : Text
  f = then_part (hash_sign ∷ []) r.fragment

  mark_within : IsCharBoundary (spell r) (authority_mark r)
  unfolding spell
  mark_within = IsCharBoundary-at_seam (s ++ a ++ p ++ q ++ f) s (a ++ p ++ q ++ f) (simp append_assoc) (behind_scheme (spell_components r) u)

  end_within : IsCharBoundary (spell r) (fragment_mark r)
  unfolding spell
  end_within = simp length-append (simp length-append at (IsCharBoundary-at_seam (s ++ a ++ p ++ q ++ f) (s ++ a ++ p ++ q) f refl (fragment_utf8 (spell_components r) u)))

  spelled_within : AreWithin (spell r) (offsets_in r)
  unfolding spell offsets_in
  spelled_within = record {
    scheme = within_before (colon ∷ []) r.scheme (a ++ p ++ q ++ f) _ (simp append_assoc) (utf8_mark colon (lit< tt)) u.scheme (behind_scheme (spell_components r) u);
    authority = within_after s (codes "//") _ (p ++ q ++ f) _ _ (simp append_assoc) refl u.authority (behind_authority (spell_components r) u);
    path = within _ (s ++ a) p (q ++ f) _ (simp append_assoc) (sym (length-append s a)) u.path (behind_path (spell_components r) u);
    query = within_after (s ++ a ++ p) (question_mark ∷ []) r.query f _ _ (simp append_assoc) (simp length-append) u.query (fragment_utf8 (spell_components r) u);
    fragment = within_after (s ++ a ++ p ++ q) (hash_sign ∷ []) r.fragment [] _ _ (simp (append_assoc, append-nil)) (simp length-append) u.fragment IsUtf8-nil;
  }

-- what is in a rule is UTF-8
pub in_rule_utf8 : (A : Rule) (bytes : Text) → InUtf8 A bytes → IsUtf8 bytes
in_rule_utf8 A bytes z = (z.0, (z.1, z.2))

none_or_utf8 : (test : Text → Bool) (A : Rule) → ((bytes : Text) → Decides (test bytes) (InUtf8 A bytes)) → (o : Option Text) → none_or test o ≡ true → IfSome o IsUtf8
none_or_utf8 test A d None h = tt
none_or_utf8 test A d (Some bytes) h = in_rule_utf8 A bytes ((d bytes).0 h)

module _ (set : CharTests) (above : AreAboveAscii set) where
  pub components_utf8 : (t : ComponentTexts) → AreComponents set t → AreUtf8 t
  components_utf8 t c = record {
    authority = none_or_utf8 _ _ (Decides-is_authority set above) t.authority c.authority;
    scheme = none_or_utf8 _ _ Decides-is_scheme_bytes t.scheme c.scheme;
    path = in_rule_utf8 _ t.path ((Decides-is_path set above t.path).0 c.path);
    query = none_or_utf8 _ _ (Decides-is_query set above) t.query c.query;
    fragment = none_or_utf8 _ _ (Decides-is_fragment set above) t.fragment c.fragment;
  }

  pub components_of : (text : Text) → is_reference set text ≡ true → AreComponents set (spell_components (read_reference text))
  components_of text h = (Decides-AreComponents set above text _ (read_components-spelled text)).0 h

  -- the offsets of a reference lie in it, between characters
  pub offsets_within : (text : Text) → is_reference set text ≡ true → AreWithin text (offsets_of text)
  unfolding offsets_of
  offsets_within text h = rw (read_reference-spelled text) at (spelled_within (read_reference text) (components_utf8 _ (components_of text h)))

  -- and so does the delimiter of the authority
  pub authority_mark_within : (text : Text) → is_reference set text ≡ true → IsCharBoundary text (authority_mark (read_reference text))
  authority_mark_within text h = rw (read_reference-spelled text) at (mark_within (read_reference text) (components_utf8 _ (components_of text h)))

  -- and of the fragment
  pub fragment_mark_within : (text : Text) → is_reference set text ≡ true → IsCharBoundary text (fragment_mark (read_reference text))
  fragment_mark_within text h = rw (read_reference-spelled text) at (end_within (read_reference text) (components_utf8 _ (components_of text h)))

-- the spelling without its last parts
module _ (s a p q f : Text) where
  front_of : s ++ a ++ p ++ q ++ [] ≡ take (length s + length a + length p + length q) (s ++ a ++ p ++ q ++ f)
  front_of = same_lists _ _ (search (rules, places)) (λ k d h. grind (arith, places))

  hierarchy_of : s ++ a ++ p ++ [] ++ [] ≡ take (length s + length a + length p) (s ++ a ++ p ++ q ++ f)
  hierarchy_of = same_lists _ _ (search (rules, places)) (λ k d h. grind (arith, places))

pub front-range : (text : Text) → take (fragment_after (lengths_of (read_reference text))) text ≡ before (hash_sign ∷ []) text
unfolding spell
front-range text = grind (arith, fragment_after-lengths, read_reference-spelled text, read_reference-before_hash text, read_reference-spelled (before (hash_sign ∷ []) text), front_of)

pub hierarchy-range : (text : Text) → take (query_after (lengths_of (read_reference text))) text ≡ hierarchy text
unfolding spell
hierarchy-range text = grind (arith, query_after-lengths, read_reference-spelled text, read_reference-hierarchy text, read_reference-spelled (hierarchy text), hierarchy_of)

pub ruleset spelled = (read_reference-spelled)

pub ruleset texts = (texts_at-offsets, read_components-spelled)
