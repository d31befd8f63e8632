-- What decides on the guard of a canonical path: whether the first item is empty, and whether it has a `:`.
use Rattle.std.proofs.Common.{◌≡◌, ℕ, ◌/◌, ◌%◌, ◌<◌, Bool, true, false, not, cond, ◌&&◌, ◌||◌, List, [], ◌∷◌, ◌++◌, map, length, refl, sym, ◌∙◌, ap, arith, codes, ◌==◌, true≢false}
use Rattle.std.proofs.lemmas.Bool.Decides.{nat_tests}
use Rattle.std.specs.{Char.{char_set_contains}, Fmt.{digit_glyph}, List.{join_with_byte}}
use Rattle.std.specs.Cmp.Lexicographic.{bytes_decides}
use Rattle.percent_encoding.specs.Percent.{percent_decode, percent_encode_byte}
use Rattle.percent_encoding.proofs.PercentLemmas.{percent_decode-nil}
use Rattle.iref_grammar.specs.{declared.context.PathContext.{PathContext}, Characters.{uri_chars}}
use Rattle.iref_grammar.specs.{Grammar.{colon, slash, is_path_char, is_user_info_char}, Rules.{Text}, Texts.{is_empty}}
use Rattle.iref_grammar.specs.PathValue.{PathValue, is_one_empty, spell_path}
use Rattle.iref_grammar.specs.{Guard.{guarded}, NormalList.{is_dot, is_dot_dot, normal_segments}, PathKey.{path_key}}
use Rattle.iref_grammar.proofs.{ComparisonLemmas.{empty-decoded}, RewritingLemmas.{not_lone}, SettledLemmas.{lone-normal}}
use Rattle.iref_path.specs.{NormalItems.{first_or}, Spelling.{each_closed, guard, guard_in}}
use Rattle.iref_path.proofs.SpellLemmas.{list-spelled, size-cons}
use Rattle.iref_canonical.specs.Canonical.{encoded, spelled_list, spelled_name, spelled_path, spelled_relative, stands}
use Rattle.iref_canonical.specs.SpelledItems.{spelled_items, standing_of}
use Rattle.iref_canonical.proofs.SpelledItemLemmas.{spelled-none, spelled-relative}

-- both are empty or neither, and both have a `:` or neither
pub record AreLike (s t : Text) : Type 0 where
  pub empty : is_empty s ≡ is_empty t
  pub marked : char_set_contains s colon ≡ char_set_contains t colon

pub like-same : (s : Text) → AreLike s s
like-same s = record { empty = refl; marked = refl }

pub like-both : (s t u : Text) → AreLike s t → AreLike t u → AreLike s u
like-both s t u h k = record { empty = h.empty ∙ k.empty; marked = h.marked ∙ k.marked }

pub like-back : (s t : Text) → AreLike s t → AreLike t s
like-back s t h = record { empty = sym h.empty; marked = sym h.marked }

-- ---- a name

glyph_other : (n : ℕ) → n < 16 → (digit_glyph true n == colon) ≡ false
glyph_other n h = grind (arith, nat_tests)

escape_other : (b : ℕ) (rest : Text) → char_set_contains (percent_encode_byte b ++ rest) colon ≡ char_set_contains rest colon
unfolding percent_encode_byte
escape_other b rest = grind (arith, nat_tests, glyph_other (b / 16 % 16) (omega arith), glyph_other (b % 16) (omega arith))

colon_stands : (raw : Bool) → stands raw (is_path_char uri_chars) colon ≡ true
unfolding is_path_char is_user_info_char
colon_stands true = grind arith
colon_stands false = grind arith

-- ---- lists of one item

-- a list of two items or more is not one empty item
two : (item : Text) (list : List Text) → is_empty list ≡ false → is_one_empty (item ∷ list) ≡ false
two item [] h = absurd (true≢false h)
two [] (x ∷ list) h = refl
two (c ∷ item) (x ∷ list) h = refl

one_empty : (item : Text) → is_one_empty (item ∷ []) ≡ is_empty item
one_empty [] = refl
one_empty (c ∷ item) = refl

decoded_not_lone : (list : List Text) → is_one_empty list ≡ false → is_one_empty (map percent_decode list) ≡ false
decoded_not_lone [] h = refl
decoded_not_lone (x ∷ []) h = one_empty (percent_decode x) ∙ empty-decoded x ∙ sym (one_empty x) ∙ h
decoded_not_lone (x ∷ y ∷ rest) h = two (percent_decode x) (map percent_decode (y ∷ rest)) refl

-- ---- guards

guard-like : (context : PathContext) (absolute : Bool) (m n : ℕ) (s t : Text) → (m == 0) ≡ (n == 0) → AreLike s t → guard_in context absolute m s ≡ guard_in context absolute n t
guard-like context absolute m n s t size like = λ i.
    cond (size i) (guard absolute false)
    (guard (absolute || context.has_authority) (not context.has_authority && (like.empty i || not (absolute || context.has_scheme) && like.marked i)))

some_count : (item : Text) (rest : List Text) → (length (item ∷ rest) == 0) ≡ false
some_count item rest = grind (arith, nat_tests)

-- ---- with the bytes beyond ASCII raw, or escaped

module _ (raw : Bool) where
  encoded-empty : (bytes : Text) → is_empty (encoded (stands raw (is_path_char uri_chars)) bytes) ≡ is_empty bytes
  unfolding encoded percent_encode_byte
  encoded-empty [] = refl
  encoded-empty (b ∷ bytes) = grind arith

  encoded-marked : (bytes : Text) → char_set_contains (encoded (stands raw (is_path_char uri_chars)) bytes) colon ≡ char_set_contains bytes colon
  unfolding encoded
  encoded-marked [] = refl
  encoded-marked (b ∷ bytes) = by (stands raw (is_path_char uri_chars) b) refl (encoded-marked bytes)
    where
      by : (kept : Bool) → stands raw (is_path_char uri_chars) b ≡ kept → char_set_contains (encoded (stands raw (is_path_char uri_chars)) bytes) colon ≡ char_set_contains bytes colon
          → char_set_contains (cond kept (b ∷ []) (percent_encode_byte b) ++ encoded (stands raw (is_path_char uri_chars)) bytes) colon ≡ char_set_contains (b ∷ bytes) colon
      by true e rest = grind (arith, nat_tests, rest)
      by false e rest = grind (arith, nat_tests, rest, colon_stands raw, escape_other b (encoded (stands raw (is_path_char uri_chars)) bytes))

  named-like : (item : Text) → AreLike (spelled_name raw item) item
  named-like item = by (is_dot item) refl (is_dot_dot item) refl
    where
      by : (dot : Bool) → is_dot item ≡ dot → (dots : Bool) → is_dot_dot item ≡ dots → AreLike (cond dot (codes "%2E") (cond dots (codes "%2E%2E") (encoded (stands raw (is_path_char uri_chars)) item))) item
      by true e dots f = let same = (bytes_decides item (codes ".")).0 e in record { empty = sym (ap is_empty same); marked = sym (ap (λ t. char_set_contains t colon) same) }
      by false e true f = let same = (bytes_decides item (codes "..")).0 f in record { empty = sym (ap is_empty same); marked = sym (ap (λ t. char_set_contains t colon) same) }
      by false e false f = record { empty = encoded-empty item; marked = encoded-marked item }

  -- ---- the items of a list

  abbrev pub items_of : Bool → List Text → List Text
  items_of absolute list = spelled_list raw (record { absolute = absolute; segments = list })

  first-like : (absolute : Bool) (item : Text) (rest : List Text) → AreLike (first_or [] (items_of absolute (item ∷ rest))) item
  unfolding spelled_relative
  first-like true item rest = named-like item
  first-like false item rest = by (is_dot_dot item && not (is_empty rest))
    where
      by : (b : Bool) → AreLike (first_or [] (cond b (item ∷ spelled_relative raw rest) (map (spelled_name raw) (item ∷ rest)))) item
      by true = like-same item
      by false = named-like item

  some_size : (absolute : Bool) (item : Text) (rest : List Text) → (length (each_closed (items_of absolute (item ∷ rest))) == 0) ≡ false
  unfolding spelled_relative
  some_size true item rest = grind (arith, nat_tests, size-cons)
  some_size false item rest = by (is_dot_dot item && not (is_empty rest))
    where
      by : (b : Bool) → (length (each_closed (cond b (item ∷ spelled_relative raw rest) (map (spelled_name raw) (item ∷ rest)))) == 0) ≡ false
      by true = grind (arith, nat_tests, size-cons)
      by false = grind (arith, nat_tests, size-cons)

  relative_some : (item : Text) (rest : List Text) → is_empty (spelled_relative raw (item ∷ rest)) ≡ false
  unfolding spelled_relative
  relative_some item rest = by (is_dot_dot item && not (is_empty rest))
    where
      by : (b : Bool) → is_empty (cond b (item ∷ spelled_relative raw rest) (map (spelled_name raw) (item ∷ rest))) ≡ false
      by true = refl
      by false = refl

  items_not_lone : (absolute : Bool) (list : List Text) → is_one_empty list ≡ false → is_one_empty (items_of absolute list) ≡ false
  unfolding spelled_relative
  items_not_lone true [] h = refl
  items_not_lone true (x ∷ []) h = one_empty (spelled_name raw x) ∙ (named-like x).empty ∙ sym (one_empty x) ∙ h
  items_not_lone true (x ∷ y ∷ rest) h = two (spelled_name raw x) (map (spelled_name raw) (y ∷ rest)) refl
  items_not_lone false [] h = refl
  items_not_lone false (x ∷ []) h = by (is_dot_dot x)
    where
      by : (b : Bool) → is_one_empty (cond (b && false) (x ∷ spelled_relative raw []) (map (spelled_name raw) (x ∷ []))) ≡ false
      by true = one_empty (spelled_name raw x) ∙ (named-like x).empty ∙ sym (one_empty x) ∙ h
      by false = one_empty (spelled_name raw x) ∙ (named-like x).empty ∙ sym (one_empty x) ∙ h
  items_not_lone false (x ∷ y ∷ rest) h = by (is_dot_dot x && true)
    where
      by : (b : Bool) → is_one_empty (cond b (x ∷ spelled_relative raw (y ∷ rest)) (map (spelled_name raw) (x ∷ y ∷ rest))) ≡ false
      by true = two x (spelled_relative raw (y ∷ rest)) (relative_some y rest)
      by false = two (spelled_name raw x) (map (spelled_name raw) (y ∷ rest)) refl

  -- ---- the guard and the path

  -- what stands before the items of a decoded list
  items-guard : (context : PathContext) (absolute : Bool) (list : List Text) (shown : Text) → AreLike shown (first_or [] list)
      → guard_in context absolute (length list) shown ≡ guard_in context absolute (length (each_closed (items_of absolute list))) (first_or [] (items_of absolute list))
  unfolding spelled_relative
  items-guard context true [] shown like = guard-like context true 0 (length (each_closed (items_of true []))) shown (first_or [] (items_of true [])) refl like
  items-guard context false [] shown like = guard-like context false 0 (length (each_closed (items_of false []))) shown (first_or [] (items_of false [])) refl like
  items-guard context absolute (item ∷ rest) shown like =
      guard-like context absolute (length (item ∷ rest)) (length (each_closed (items_of absolute (item ∷ rest)))) shown (first_or [] (items_of absolute (item ∷ rest)))
      (some_count item rest ∙ sym (some_size absolute item rest))
      (like-both shown item (first_or [] (items_of absolute (item ∷ rest))) like (like-back (first_or [] (items_of absolute (item ∷ rest))) item (first-like absolute item rest)))

  items-spelled : (absolute : Bool) (list : List Text) (standing : ℕ) → standing ≡ cond absolute 0 (standing_of list) → spelled_items raw standing list ≡ items_of absolute list
  items-spelled true list standing e = ap (λ n. spelled_items raw n list) e ∙ spelled-none raw list
  items-spelled false list standing e = ap (λ n. spelled_items raw n list) e ∙ spelled-relative raw list

  -- the guard and the items spell the canonical path
  pub path-spelled : (context : PathContext) (p : PathValue) (list : List Text) (count standing : ℕ) (shown : Text) → list ≡ map percent_decode (normal_segments p) → count ≡ length list
      → AreLike shown (first_or [] list) → standing ≡ cond p.absolute 0 (standing_of list)
      → guard_in context p.absolute count shown ++ join_with_byte slash (spelled_items raw standing list) ≡ spell_path (guarded context (spelled_path raw (path_key p)))
  unfolding path_key
  path-spelled context p list count standing shown e f like h =
      let items = items_of p.absolute list in
      let some = ap is_one_empty e ∙ decoded_not_lone (normal_segments p) (ap is_one_empty (sym (lone-normal p)) ∙ not_lone (normal_segments p)) in
      (λ i. guard_in context p.absolute (f i) shown ++ join_with_byte slash (items-spelled p.absolute list standing h i))
      ∙ ap (λ g. g ++ join_with_byte slash items) (items-guard context p.absolute list shown like)
      ∙ sym (list-spelled context p.absolute items (items_not_lone p.absolute list some))
      ∙ ap (λ l. spell_path (guarded context (record { absolute = p.absolute; segments = items_of p.absolute l }))) e

pub first-decoded : (list : List Text) → percent_decode (first_or [] list) ≡ first_or [] (map percent_decode list)
first-decoded [] = percent_decode-nil
first-decoded (s ∷ list) = refl
