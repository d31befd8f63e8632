-- A path that one scan finds to stand does, in the canonical text and in the one that is hashed.
use Rattle.std.proofs.Common.{◌≡◌, ℕ, Bool, true, false, not, cond, ◌&&◌, ◌||◌, ◌==◌, List, [], ◌∷◌, map, refl, sym, ◌∙◌, ap, arith}
use Rattle.std.proofs.lemmas.Bool.{agree_below_at, and_from, and_parts, ltb-true, not-true, or_right}
use Rattle.std.proofs.{lemmas.Bool.Decides.{nat_tests}, lemmas.Grind.{common_steps}}
use Rattle.std.proofs.lemmas.List.Folds.{list_all-append}
use Rattle.std.specs.{List.{list_all, join_with_byte, onto_first}, Char.{is_ascii}}
use Rattle.percent_encoding.specs.Percent.{percent_decode, percent_sign}
use Rattle.iref_grammar.specs.{declared.context.PathContext.{PathContext}, Characters.{uri_chars}, Contexts.{fits}}
use Rattle.iref_grammar.specs.Grammar.{slash, is_path_char, is_reg_name_char, is_user_info_char}
use Rattle.iref_grammar.specs.{PathValue.{begins_empty, read_path, spell_path}, Rules.{Text}, Texts.{lacks, pieces_at}}
use Rattle.iref_grammar.proofs.{LackLemmas.{all_lacks}, PathLemmas.{read_path-reads}}
use Rattle.iref_grammar.specs.{Guard.{guarded}, NormalList.{is_name}, PathKey.{path_key}}
use Rattle.iref_parse.specs.{Dots.{begins_with_dot, has_dotted_segment, is_some_dotted}, Plain.{is_path_byte}}
use Rattle.iref_path.proofs.{DotlessLemmas.{dotless_name}, GuardTextLemmas.{guarded-same}}
use Rattle.iref_canonical.specs.Canonical.{encoded, is_raw, spelled_list, spelled_name, spelled_path, spelled_relative, stands}
use Rattle.iref_canonical.specs.KeptPaths.{is_kept_path, is_rooted}
use Rattle.iref_canonical.proofs.{CanonicalPartLemmas.{decoded-lacks}, PlainCharacterLemmas.{plain_path}}
use Rattle.iref_canonical.proofs.PlainReferenceLemmas.{named, normal_same, read_dotless}
use Rattle.iref_canonical.proofs.PlainTextLemmas.{joined-all, passing-encoded}

-- ---- where the path begins

rooted-absolute : (text : Text) → is_rooted text ≡ true → (read_path text).absolute ≡ true
unfolding read_path
rooted-absolute [] h = h
rooted-absolute (c ∷ []) h = grind arith
rooted-absolute (c ∷ d ∷ rest) h = grind arith

onto_full : (c : ℕ) (pieces : List Text) → begins_empty (onto_first c pieces) ≡ false
onto_full c [] = refl
onto_full c (p ∷ pieces) = refl

rooted-full : (text : Text) → is_rooted text ≡ true → begins_empty (read_path text).segments ≡ false
unfolding read_path
rooted-full [] h = refl
rooted-full (c ∷ []) h = grind arith
rooted-full (c ∷ d ∷ rest) h = grind (arith, common_steps, onto_full d (pieces_at slash rest))

rooted-fits : (context : PathContext) (text : Text) → is_rooted text ≡ true → fits context (read_path text) ≡ true
rooted-fits context text h =
    let absolute = rooted-absolute text h in
    let full = rooted-full text h in
    let shown = (read_path-reads text).shown in
    grind (arith, absolute, full, shown)

-- ---- the bytes

-- a character of a path, or `/`
abbrev stands_in_path : ℕ → Bool
stands_in_path b = b == slash || is_path_char uri_chars b

path_byte_stands : (b : ℕ) → is_path_byte b ≡ true → stands_in_path b ≡ true
unfolding is_path_char is_user_info_char is_reg_name_char
path_byte_stands b h =
    let all = agree_below_at (λ c. not (is_path_byte c) || stands_in_path c) (λ c. true) 128 b refl (ltb-true b 128 (and_parts (is_ascii b) _ h).0) in
    (λ i. not (sym h i) || stands_in_path b) ∙ all

-- ---- with the bytes beyond ASCII raw, or escaped

module _ (raw : Bool) where
  abbrev path_char : ℕ → Bool
  path_char = stands raw (is_path_char uri_chars)

  percent_escaped : path_char percent_sign ≡ false
  percent_escaped = by raw
    where
      by : (r : Bool) → ((r && is_raw percent_sign) || is_path_char uri_chars percent_sign) ≡ false
      by true = plain_path.percent
      by false = plain_path.percent

  all_stand : (text : Text) → list_all is_path_byte text ≡ true → list_all (stands raw stands_in_path) text ≡ true
  all_stand [] h = refl
  all_stand (b ∷ bs) h =
      let both = and_parts (is_path_byte b) (list_all is_path_byte bs) h in
      and_from (stands raw stands_in_path b) (list_all (stands raw stands_in_path) bs) (or_right (raw && is_raw b) (stands_in_path b) (path_byte_stands b both.0)) (all_stand bs both.1)

  -- ---- the segments

  one_name : (s : Text) → lacks slash s ≡ true → list_all (stands raw stands_in_path) s ≡ true → list_all path_char s ≡ true
  one_name [] l h = refl
  one_name (c ∷ cs) l h = grind (arith, nat_tests, common_steps, one_name cs)

  same_item : (s : Text) → begins_with_dot s ≡ false → list_all path_char s ≡ true → spelled_name raw (percent_decode s) ≡ s
  same_item s d h =
      let decoded = decoded-lacks s (all_lacks path_char percent_sign percent_escaped s h) in
      named raw (percent_decode s) (ap is_name decoded ∙ dotless_name s d) ∙ ap (encoded path_char) decoded ∙ passing-encoded path_char s h

  same_items : (list : List Text) → is_some_dotted list ≡ false → list_all (lacks slash) list ≡ true → list_all (list_all (stands raw stands_in_path)) list ≡ true
      → map (spelled_name raw) (map percent_decode list) ≡ list
  same_items [] d l h = refl
  same_items (s ∷ rest) d l h =
      let lack = and_parts (lacks slash s) (list_all (lacks slash) rest) l in
      let here = and_parts (list_all (stands raw stands_in_path) s) (list_all (list_all (stands raw stands_in_path)) rest) h in
      let name = one_name s lack.0 here.0 in
      grind (arith, same_item s, same_items rest)

  segments_stand : (text : Text) → list_all is_path_byte text ≡ true → list_all (list_all (stands raw stands_in_path)) (read_path text).segments ≡ true
  unfolding spell_path
  segments_stand text h =
      let p = read_path text in
      let whole = ap (list_all (stands raw stands_in_path)) (read_path-reads text).spelled ∙ all_stand text h in
      let root = cond p.absolute (slash ∷ []) [] in
      joined-all (stands raw stands_in_path) slash p.segments
      (and_parts (list_all (stands raw stands_in_path) root) _ (sym (list_all-append (stands raw stands_in_path) root (join_with_byte slash p.segments)) ∙ whole)).1

  -- ---- the path

  same_path : (text : Text) → is_kept_path text ≡ true → spelled_path raw (path_key (read_path text)) ≡ read_path text
  unfolding path_key
  same_path text h =
      let p = read_path text in
      let front = and_parts (is_rooted text) (list_all is_path_byte text) (and_parts _ (not (has_dotted_segment text)) h).0 in
      let dotless = read_dotless text (not-true _ (and_parts _ (not (has_dotted_segment text)) h).1) in
      let reads = read_path-reads text in
      let list = ap (λ l. map (spelled_name raw) (map percent_decode l)) (normal_same p dotless reads.shown) ∙ same_items p.segments dotless reads.segments (segments_stand text front.1) in
      let items : spelled_list raw (path_key p) ≡ p.segments =
      (λ i. cond (rooted-absolute text front.0 i) (map (spelled_name raw) (path_key p).segments) (spelled_relative raw (path_key p).segments)) ∙ list in
      λ i. record { absolute = p.absolute; segments = items i }

  pub kept-path : (context : PathContext) (text : Text) → is_kept_path text ≡ true → spell_path (guarded context (spelled_path raw (path_key (read_path text)))) ≡ text
  kept-path context text h =
      let rooted = (and_parts (is_rooted text) (list_all is_path_byte text) (and_parts _ (not (has_dotted_segment text)) h).0).0 in
      ap (λ p. spell_path (guarded context p)) (same_path text h) ∙ ap spell_path (guarded-same context (read_path text) (rooted-fits context text rooted)) ∙ (read_path-reads text).spelled

pub ruleset kept = (kept-path)
