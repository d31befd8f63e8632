-- Canonical paths: each is its own normal path, and its key is the key that it was made of.
use Rattle.std.proofs.Common.{◌≡◌, suc, Bool, true, false, not, cond, ◌&&◌, All, List, [], ◌∷◌, ◌++◌, map, ◌+◌, ◌||◌, refl, sym, ◌∙◌, ap, subst, arith, codes, bytes_eq, true≢false}
use Rattle.std.proofs.lemmas.Bool.{and_from, and_parts, cond-false, not-true}
use Rattle.std.specs.{Str.{is_utf8, chars}, Char.{encode_utf8}}
use Rattle.std.specs.{List.{AllByRecursion, list_all}, Cmp.Lexicographic.{bytes_decides}}
use Rattle.percent_encoding.specs.Percent.{percent_decode}
use Rattle.percent_encoding.proofs.PercentLemmas.{IsByte}
use Rattle.iref_grammar.specs.{declared.context.PathContext.{PathContext}, Rules.{Text}}
use Rattle.iref_grammar.specs.Characters.{uri_chars, uri_above_ascii}
use Rattle.iref_grammar.specs.Grammar.{is_path_char, is_user_info_char, is_reg_name_char}
use Rattle.iref_grammar.specs.{Tests.{is_segment, owed_after}, Texts.{is_empty}, PathValue.{PathValue, is_one_empty}}
use Rattle.iref_grammar.specs.Contexts.{follows_authority}
use Rattle.iref_grammar.proofs.LeafLemmas.{Decides-is_segment}
use Rattle.iref_grammar.specs.Guard.{guarded}
use Rattle.iref_grammar.specs.NormalList.{is_dot, is_dot_dot, is_name, without_lone_empty, normal_segments, ends_in_dots, closed, staying_names, open_parents}
use Rattle.iref_grammar.specs.PathKey.{path_key}
use Rattle.iref_grammar.proofs.JoinedLemmas.{are_names, climbs, open-names, staying-names}
use Rattle.iref_grammar.proofs.{NormalPathLemmas.{normal-guarded}, PathGrammarLemmas.{is_segment-dot_dot}}
use Rattle.iref_grammar.proofs.SettledLemmas.{leading, normal-is, ends-names}
use Rattle.iref_canonical.specs.Canonical.{encoded, canonical_name, canonical_relative, canonical_items, canonical_path, spelled_relative}
use Rattle.iref_canonical.proofs.{EncodedTextLemmas.{decoded-encoded, encoded-in}, PlainCharacterLemmas.{plain_path}}

-- items as bytes
abbrev pub AreBytes : List Text → Type 0
AreBytes = AllByRecursion (All IsByte)

-- ---- one item

decoded-item : (item : Text) → All IsByte item → percent_decode (encoded (is_path_char uri_chars) item) ≡ item
decoded-item = decoded-encoded (is_path_char uri_chars) plain_path

-- an item that is another text than one that decoding leaves is not encoded as it
encoded_other : (item mark : Text) → All IsByte item → percent_decode mark ≡ mark → bytes_eq item mark ≡ false → bytes_eq (encoded (is_path_char uri_chars) item) mark ≡ false
encoded_other item mark small same other = by (bytes_eq (encoded (is_path_char uri_chars) item) mark) refl
  where
    by : (b : Bool) → bytes_eq (encoded (is_path_char uri_chars) item) mark ≡ b → b ≡ false
    by false e = refl
    by true e =
        let item_is : item ≡ mark = sym (decoded-item item small) ∙ ap percent_decode ((bytes_decides (encoded (is_path_char uri_chars) item) mark).0 e) ∙ same in
        absurd (true≢false (sym ((bytes_decides item mark).1 item_is) ∙ other))

decoded-dot : percent_decode (codes ".") ≡ codes "."
unfolding percent_decode
decoded-dot = refl

decoded-dots : percent_decode (codes "..") ≡ codes ".."
unfolding percent_decode
decoded-dots = refl

-- a canonical name is no dot segment
is_name-canonical_name : (item : Text) → All IsByte item → is_name (canonical_name item) ≡ true
is_name-canonical_name item small = by (is_dot item) (is_dot_dot item) refl refl
  where
    by : (dot parent : Bool) → is_dot item ≡ dot → is_dot_dot item ≡ parent → is_name (cond dot (codes "%2E") (cond parent (codes "%2E%2E") (encoded (is_path_char uri_chars) item))) ≡ true
    by true parent e f = refl
    by false true e f = refl
    by false false e f = λ i. not (encoded_other item (codes ".") small decoded-dot e i) && not (encoded_other item (codes "..") small decoded-dots f i)

-- and decodes to the item
decoded-canonical_name : (item : Text) → All IsByte item → percent_decode (canonical_name item) ≡ item
unfolding percent_decode
decoded-canonical_name item small = by (is_dot item) (is_dot_dot item) refl refl
  where
    by : (dot parent : Bool) → is_dot item ≡ dot → is_dot_dot item ≡ parent → percent_decode (cond dot (codes "%2E") (cond parent (codes "%2E%2E") (encoded (is_path_char uri_chars) item))) ≡ item
    by true parent e f = sym ((bytes_decides item (codes ".")).0 e)
    by false true e f = sym ((bytes_decides item (codes "..")).0 f)
    by false false e f = decoded-item item small

is_segment-escaped_dot : is_segment uri_chars (codes "%2E") ≡ true
unfolding is_segment is_utf8 chars encode_utf8 owed_after is_path_char is_user_info_char is_reg_name_char
is_segment-escaped_dot = refl

is_segment-escaped_dots : is_segment uri_chars (codes "%2E%2E") ≡ true
unfolding is_segment is_utf8 chars encode_utf8 owed_after is_path_char is_user_info_char is_reg_name_char
is_segment-escaped_dots = refl

is_segment-canonical_name : (item : Text) → is_segment uri_chars (canonical_name item) ≡ true
is_segment-canonical_name item = by (is_dot item) (is_dot_dot item)
  where
    by : (dot parent : Bool) → is_segment uri_chars (cond dot (codes "%2E") (cond parent (codes "%2E%2E") (encoded (is_path_char uri_chars) item))) ≡ true
    by true parent = is_segment-escaped_dot
    by false true = is_segment-escaped_dots
    by false false = (Decides-is_segment uri_chars uri_above_ascii (encoded (is_path_char uri_chars) item)).1 (encoded-in (is_path_char uri_chars) plain_path item)

-- ---- lists of names

is_empty-canonical_names : (items : List Text) → is_empty (map canonical_name items) ≡ is_empty items
is_empty-canonical_names [] = refl
is_empty-canonical_names (item ∷ rest) = refl

are_names-canonical_names : (items : List Text) → AreBytes items → are_names (map canonical_name items) ≡ true
are_names-canonical_names [] small = refl
are_names-canonical_names (item ∷ rest) small = and_from _ _ (is_name-canonical_name item small.0) (are_names-canonical_names rest small.1)

decoded-canonical_names : (items : List Text) → AreBytes items → map percent_decode (map canonical_name items) ≡ items
decoded-canonical_names [] small = refl
decoded-canonical_names (item ∷ rest) small = λ i. decoded-canonical_name item small.0 i ∷ decoded-canonical_names rest small.1 i

canonical_names-in : (items : List Text) → list_all (is_segment uri_chars) (map canonical_name items) ≡ true
canonical_names-in [] = refl
canonical_names-in (item ∷ rest) = and_from _ _ (is_segment-canonical_name item) (canonical_names-in rest)

-- ---- lists that are their own normal lists, unless they are one empty segment

record IsNormal (absolute : Bool) (list : List Text) : Type 0 where
  ends : ends_in_dots list ≡ false
  kept : climbs (leading absolute list) ++ staying_names list ≡ list

normal-same : (absolute : Bool) (list : List Text) → IsNormal absolute list → is_one_empty list ≡ false → let p : PathValue = record { absolute = absolute; segments = list } in normal_segments p ≡ list
normal-same absolute list n some =
    let kept = climbs (leading absolute list) ++ staying_names list in
    normal-is absolute list ∙ ap without_lone_empty ((λ i. cond (n.ends i) (closed kept) kept) ∙ n.kept) ∙ cond-false (is_one_empty list) [] list some

names_normal : (absolute : Bool) (list : List Text) → are_names list ≡ true → IsNormal absolute list
names_normal absolute list h = record { ends = ends-names list h; kept = by absolute }
  where
    by : (absolute : Bool) → climbs (leading absolute list) ++ staying_names list ≡ list
    by true = staying-names list h
    by false = λ i. climbs (open-names list h i) ++ staying-names list h i

-- a `..` before a list that is not empty
parent_normal : (list : List Text) → is_empty list ≡ false → IsNormal false list → IsNormal false (codes ".." ∷ list)
unfolding staying_names
parent_normal list some n =
    let one_more : open_parents list + 1 ≡ suc (open_parents list) = omega arith in
    record {
      ends = (λ i. cond (some i) true (ends_in_dots list)) ∙ n.ends;
      kept = (λ i. climbs (one_more i) ++ staying_names list) ∙ ap (λ l. codes ".." ∷ l) n.kept;
    }

-- ---- relative lists

is_empty-canonical_relative : (items : List Text) → is_empty (canonical_relative items) ≡ is_empty items
unfolding spelled_relative
is_empty-canonical_relative [] = refl
is_empty-canonical_relative (item ∷ rest) = by (is_dot_dot item && not (is_empty rest))
  where
    by : (b : Bool) → is_empty (cond b (item ∷ canonical_relative rest) (map canonical_name (item ∷ rest))) ≡ false
    by true = refl
    by false = refl

-- a `..` that stands is not the last item
parent_stands : (item : Text) (rest : List Text) → (is_dot_dot item && not (is_empty rest)) ≡ true → (item ≡ codes "..") × (is_empty (canonical_relative rest) ≡ false)
parent_stands item rest e =
    let both = and_parts (is_dot_dot item) (not (is_empty rest)) e in
    ((bytes_decides item (codes "..")).0 both.0, is_empty-canonical_relative rest ∙ not-true (is_empty rest) both.1)

canonical_relative_normal : (items : List Text) → AreBytes items → IsNormal false (canonical_relative items)
unfolding spelled_relative
canonical_relative_normal [] small = names_normal false [] refl
canonical_relative_normal (item ∷ rest) small = by (is_dot_dot item && not (is_empty rest)) refl (canonical_relative_normal rest small.1)
  where
    by : (b : Bool) → (is_dot_dot item && not (is_empty rest)) ≡ b → IsNormal false (canonical_relative rest) → IsNormal false (cond b (item ∷ canonical_relative rest) (map canonical_name (item ∷ rest)))
    by true e n =
        let s = parent_stands item rest e in
        subst (λ t. IsNormal false (t ∷ canonical_relative rest)) (sym s.0) (parent_normal (canonical_relative rest) s.1 n)
    by false e n = names_normal false (map canonical_name (item ∷ rest)) (are_names-canonical_names (item ∷ rest) small)

decoded-canonical_relative : (items : List Text) → AreBytes items → map percent_decode (canonical_relative items) ≡ items
unfolding spelled_relative
decoded-canonical_relative [] small = refl
decoded-canonical_relative (item ∷ rest) small = by (is_dot_dot item && not (is_empty rest)) refl (decoded-canonical_relative rest small.1)
  where
    by : (b : Bool) → (is_dot_dot item && not (is_empty rest)) ≡ b → map percent_decode (canonical_relative rest) ≡ rest → map percent_decode (cond b (item ∷ canonical_relative rest) (map canonical_name (item ∷ rest))) ≡ item ∷ rest
    by true e back =
        let item_is = (parent_stands item rest e).0 in
        λ i. (ap percent_decode item_is ∙ decoded-dots ∙ sym item_is) i ∷ back i
    by false e back = decoded-canonical_names (item ∷ rest) small

canonical_relative-in : (items : List Text) → list_all (is_segment uri_chars) (canonical_relative items) ≡ true
unfolding spelled_relative
canonical_relative-in [] = refl
canonical_relative-in (item ∷ rest) = by (is_dot_dot item && not (is_empty rest)) refl (canonical_relative-in rest)
  where
    by : (b : Bool) → (is_dot_dot item && not (is_empty rest)) ≡ b → list_all (is_segment uri_chars) (canonical_relative rest) ≡ true
        → list_all (is_segment uri_chars) (cond b (item ∷ canonical_relative rest) (map canonical_name (item ∷ rest))) ≡ true
    by true e all = and_from _ _ (ap (is_segment uri_chars) (parent_stands item rest e).0 ∙ is_segment-dot_dot uri_chars) all
    by false e all = canonical_names-in (item ∷ rest)

-- ---- the items of a key

module _ (items : List Text) where
  items_normal : (absolute : Bool) → AreBytes items → IsNormal absolute (canonical_items (record { absolute = absolute; segments = items }))
  items_normal true small = names_normal true (map canonical_name items) (are_names-canonical_names items small)
  items_normal false small = canonical_relative_normal items small

  decoded-items : (absolute : Bool) → AreBytes items → map percent_decode (canonical_items (record { absolute = absolute; segments = items })) ≡ items
  decoded-items true small = decoded-canonical_names items small
  decoded-items false small = decoded-canonical_relative items small

  items-in : (absolute : Bool) → list_all (is_segment uri_chars) (canonical_items (record { absolute = absolute; segments = items })) ≡ true
  items-in true = canonical_names-in items
  items-in false = canonical_relative-in items

  is_empty-items : (absolute : Bool) → is_empty (canonical_items (record { absolute = absolute; segments = items })) ≡ is_empty items
  is_empty-items true = is_empty-canonical_names items
  is_empty-items false = is_empty-canonical_relative items

pub canonical_items-in : (k : PathValue) → list_all (is_segment uri_chars) (canonical_items k) ≡ true
canonical_items-in k = items-in k.segments k.absolute

lone_decoded : (list : List Text) → is_one_empty list ≡ true → is_one_empty (map percent_decode list) ≡ true
unfolding percent_decode
lone_decoded [] h = h
lone_decoded ([] ∷ []) h = refl
lone_decoded ([] ∷ t ∷ list) h = h
lone_decoded ((c ∷ s) ∷ list) h = absurd (true≢false (sym h))

-- a list that decodes to another than one empty segment is no such list
not_lone : (list items : List Text) → map percent_decode list ≡ items → is_one_empty items ≡ false → is_one_empty list ≡ false
not_lone list items e some = by (is_one_empty list) refl
  where
    by : (b : Bool) → is_one_empty list ≡ b → b ≡ false
    by false h = refl
    by true h = absurd (true≢false (sym (lone_decoded list h) ∙ ap is_one_empty e ∙ some))

-- the key of a canonical path, guarded or not, is the key that it was made of
pub path_key-canonical : (context : PathContext) (k : PathValue) → AreBytes k.segments → is_one_empty k.segments ≡ false → follows_authority context k ≡ true → path_key (guarded context (canonical_path k)) ≡ k
unfolding path_key
path_key-canonical context k small some follows =
    let back = decoded-items k.segments k.absolute small in
    let follows_too = (λ i. not context.has_authority || k.absolute || is_empty-items k.segments k.absolute i) ∙ follows in
    let bare = normal-guarded context (canonical_path k) follows_too in
    let same = normal-same k.absolute (canonical_items k) (items_normal k.segments k.absolute small) (not_lone (canonical_items k) k.segments back some) in
    (λ i. record { absolute = (bare i).absolute; segments = map percent_decode (bare i).segments })
    ∙ (λ i. record { absolute = k.absolute; segments = (ap (map percent_decode) same ∙ back) i })
