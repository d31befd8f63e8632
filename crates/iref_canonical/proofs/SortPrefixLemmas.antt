-- What is below a reference is one range of sort keys, and begins with one text.
use Rattle.std.proofs.Common.{arith, ◌≡◌, ℕ, ◌≤◌, Bool, true, false, ◌&&◌, List, [], ◌∷◌, ◌++◌, refl, sym, ◌∙◌, ap, Some, None, Ordering, Less, Equal, Greater, is_eq, append_assoc, length, take, lit≤, ◌+◌, if◌then◌else◌, is_some, map, option_map, cond, not, ◌==◌}
use Rattle.std.proofs.{lemmas.Grind.{common_steps}, lemmas.Bool.Decides.{nat_tests}, lemmas.Map.Text.{is_eq-slice_cmp}}
use Rattle.std.specs.{Option.{option_cmp}, Ordering.{is_le, is_lt, on, ordering_reverse, ordering_then, then_cmp}}
use Rattle.std.specs.{BTreeMap.Range.{IsLeBy, range_contains}, List.{flat_map, starts_with}}
use Rattle.std.specs.declared.ops.Bound.TheVariants.{Excluded, Included}
use Rattle.std.specs.{Cmp.{IsTotalOrder, both_ways, on_total, then_total}, Cmp.Lexicographic.{options_total, pointwise}}
use Rattle.percent_encoding.specs.Percent.{percent_decode}
use mathlib.Core.Bool.{beq}
use Rattle.iref_grammar.specs.{Keys.{text_order}, PathValue.{PathValue}, Reference.{ReferenceValue}, Rules.{Text}}
use Rattle.iref_grammar.specs.{AuthorityKey.{authority_key_cmp}, Key.{key}, NormalList.{normal_segments}}
use Rattle.iref_grammar.specs.{PathKey.{path_key}, PathSuffix.{is_decoded_beginning, path_suffix}}
use Rattle.iref_grammar.specs.ReferenceSuffix.{reference_suffix}
use Rattle.iref_grammar.proofs.KeyOrderLemmas.{authority_keys_total, texts_total}
use Rattle.iref_canonical.specs.SortKey.{sort_authority, sort_item, sort_key, sort_list, sort_option, sort_path, sort_text}
use Rattle.iref_canonical.specs.SortPrefix.{is_between, sort_path_prefix, sort_prefix, sort_prefix_end}
use Rattle.iref_canonical.proofs.SortKeyLemmas.{KeepsOrder, authorities_keep, both_keep, on_keeps, options_keep, texts_keep}

-- ---- parts of texts between texts

-- both ends begin with one part, and the text with another: it is between them where these are equal, and what follows is
between_parts : {A : Type 0} {R : A → A → Ordering} {f : A → Text} → KeepsOrder R f → IsTotalOrder R → (a b : A) (from end text : Text)
    → is_between (f a ++ from) (f a ++ end) (f b ++ text) ≡ (is_eq (R a b) && is_between from end text)
between_parts {R = R} keeps total a b from end text =
    (λ i. is_le (keeps.decides a b from text i) && is_lt (keeps.decides b a text end i))
    ∙ ap (λ o. is_le (ordering_then (R a b) (text_order from text)) && is_lt (ordering_then o (text_order text end))) (total.antisymm b a)
    ∙ by (R a b) (text_order from text) (text_order text end)
  where
    by : (o u v : Ordering) → (is_le (ordering_then o u) && is_lt (ordering_then (ordering_reverse o) v)) ≡ (is_eq o && (is_le u && is_lt v))
    by Less u v = refl
    by Equal u v = refl
    by Greater u v = refl

-- an item of the one list is equal to an item of the other
abbrev same_item : Text → Text → Bool
same_item a b = is_eq (text_order a b)

-- items, and then a byte above those that follow an item: the list of the ends is a beginning of the other
items_between : (above : ℕ) → 2 ≤ above → (xs ys : List Text) (rest : Text)
    → is_between (flat_map sort_item xs) (flat_map sort_item xs ++ above ∷ []) (sort_list sort_item ys ++ rest) ≡ pointwise same_item xs (take (length xs) ys)
items_between above h [] [] rest = grind (arith, common_steps, nat_tests)
items_between above h [] (y ∷ ys) rest = grind (arith, common_steps, nat_tests)
items_between above h (x ∷ xs) [] rest = refl
items_between above h (x ∷ xs) (y ∷ ys) rest =
    let from = flat_map sort_item xs in
    (λ i. is_between (1 ∷ (sort_text x ++ from)) (1 ∷ append_assoc (sort_text x) from (above ∷ []) i) (1 ∷ turned i))
    ∙ between_parts texts_keep texts_total x y from (from ++ above ∷ []) (sort_list sort_item ys ++ rest)
    ∙ ap (λ b. same_item x y && b) (items_between above h xs ys rest)
  where
    turned : ((sort_text y ++ flat_map sort_item ys) ++ 0 ∷ []) ++ rest ≡ sort_text y ++ (sort_list sort_item ys ++ rest)
    turned = ap (λ t. t ++ rest) (append_assoc (sort_text y) (flat_map sort_item ys) (0 ∷ [])) ∙ append_assoc (sort_text y) (sort_list sort_item ys) rest

-- whether a path is absolute, and its items
paths_between : (above : ℕ) → 2 ≤ above → (p q : PathValue) (rest : Text)
    → is_between (sort_path_prefix p) (sort_path_prefix p ++ above ∷ []) (sort_path q ++ rest) ≡ (beq p.absolute q.absolute && pointwise same_item p.segments (take (length p.segments) q.segments))
unfolding sort_path sort_path_prefix
paths_between above h p q rest = by p.absolute q.absolute
  where
    by : (a b : Bool)
        → is_between ((if a then 1 else 0) ∷ flat_map sort_item p.segments) ((if a then 1 else 0) ∷ flat_map sort_item p.segments ++ above ∷ []) ((if b then 1 else 0) ∷ sort_list sort_item q.segments ++ rest)
        ≡ (beq a b && pointwise same_item p.segments (take (length p.segments) q.segments))
    by false false = items_between above h p.segments q.segments rest
    by false true = refl
    by true false = refl
    by true true = items_between above h p.segments q.segments rest

-- ---- keys

-- what follows the prefix in a key: the end of the items, the query and the fragment
pub key_is : (k : ReferenceValue) → sort_key k ≡ ((sort_prefix k ++ 0 ∷ []) ++ sort_option sort_text k.query) ++ sort_option sort_text k.fragment
unfolding sort_key sort_path sort_path_prefix sort_prefix
key_is k =
    ap (λ t. (t ++ sort_option sort_text k.query) ++ sort_option sort_text k.fragment)
    (sym (append_assoc (sort_option sort_text k.scheme ++ sort_option sort_authority k.authority) ((if k.path.absolute then 1 else 0) ∷ flat_map sort_item k.path.segments) (0 ∷ [])))

abbrev front_cmp : ReferenceValue → ReferenceValue → Ordering
front_cmp = then_cmp (on (λ (k : ReferenceValue). k.scheme) (option_cmp text_order)) (on (λ (k : ReferenceValue). k.authority) (option_cmp authority_key_cmp))

abbrev sort_front : ReferenceValue → Text
sort_front k = sort_option sort_text k.scheme ++ sort_option sort_authority k.authority

fronts_keep : KeepsOrder front_cmp sort_front
fronts_keep = both_keep (on_keeps (λ (k : ReferenceValue). k.scheme) (options_keep texts_keep)) (on_keeps (λ (k : ReferenceValue). k.authority) (options_keep authorities_keep))

fronts_total : IsTotalOrder front_cmp
fronts_total = then_total (on_total (λ (k : ReferenceValue). k.scheme) (options_total texts_total)) (on_total (λ (k : ReferenceValue). k.authority) (options_total authority_keys_total))

-- scheme, authority and flag are the same, and the items of the one begin those of the other
abbrev is_below : ReferenceValue → ReferenceValue → Bool
is_below k l = is_eq (front_cmp k l) && (beq k.path.absolute l.path.absolute && pointwise same_item k.path.segments (take (length k.path.segments) l.path.segments))

keys_between : (above : ℕ) → 2 ≤ above → (k l : ReferenceValue) → is_between (sort_prefix k) (sort_prefix k ++ above ∷ []) (sort_key l) ≡ is_below k l
unfolding sort_prefix sort_key
keys_between above h k l =
    let path = sort_path l.path in
    let query = sort_option sort_text l.query in
    let fragment = sort_option sort_text l.fragment in
    let end = append_assoc (sort_front k) (sort_path_prefix k.path) (above ∷ []) in
    let turned = append_assoc (sort_front l ++ path) query fragment ∙ append_assoc (sort_front l) path (query ++ fragment) in
    (λ i. is_between (sort_front k ++ sort_path_prefix k.path) (end i) (turned i))
    ∙ between_parts fronts_keep fronts_total k l (sort_path_prefix k.path) (sort_path_prefix k.path ++ above ∷ []) (path ++ (query ++ fragment))
    ∙ ap (λ b. is_eq (front_cmp k l) && b) (paths_between above h k.path l.path (query ++ fragment))

-- ---- what is left of a reference

decoded_items : (xs ys : List Text) → pointwise same_item (map percent_decode xs) (take (length (map percent_decode xs)) (map percent_decode ys)) ≡ is_decoded_beginning xs ys
decoded_items [] ys = refl
decoded_items (x ∷ xs) [] = refl
decoded_items (x ∷ xs) (y ∷ ys) = λ i. is_eq-slice_cmp (percent_decode x) (percent_decode y) i && decoded_items xs ys i

below_has_suffix : (q r : ReferenceValue) → is_below (key q) (key r) ≡ is_some (reference_suffix q r)
unfolding reference_suffix path_suffix key path_key
below_has_suffix q r =
    let list = normal_segments q.path in
    ap (λ b. is_eq (front_cmp (key q) (key r)) && (beq q.path.absolute r.path.absolute && b)) (decoded_items list (normal_segments r.path))
    ∙ by (option_cmp text_order (key q).scheme (key r).scheme) (option_cmp authority_key_cmp (key q).authority (key r).authority)
    (beq q.path.absolute r.path.absolute && is_decoded_beginning list (normal_segments r.path)) _ _
  where
    by : {A B : Type 0} (s a : Ordering) (p : Bool) (f : A → B) (left : A)
        → (is_eq (ordering_then s a) && p) ≡ is_some (cond (is_eq s && is_eq a) (option_map f (cond p (Some left) None)) None)
    by Less a p f left = refl
    by Equal Less p f left = refl
    by Equal Equal false f left = refl
    by Equal Equal true f left = refl
    by Equal Greater p f left = refl
    by Greater a p f left = refl

-- ---- the laws

pub below_is_range : (q r : ReferenceValue) → is_between (sort_prefix (key q)) (sort_prefix_end (key q)) (sort_key (key r)) ≡ is_some (reference_suffix q r)
below_is_range q r = keys_between 2 (lit≤ tt) (key q) (key r) ∙ below_has_suffix q r

begins_between : (above : ℕ) (from text : Text) → is_between from (from ++ above ∷ []) text ≡ true → starts_with ◌==◌ text from ≡ true
begins_between above [] text h = refl
begins_between above (b ∷ from) [] h = grind arith
begins_between above (b ∷ from) (c ∷ text) h = grind (arith, common_steps, nat_tests, begins_between above from text)

-- a byte above the one that follows
above_next : Text → Text → ℕ
above_next [] [] = 2
above_next [] (c ∷ text) = c + 2
above_next (b ∷ from) [] = 2
above_next (b ∷ from) (c ∷ text) = above_next from text

least_above : (from text : Text) → 2 ≤ above_next from text
unfolding above_next
least_above [] [] = omega arith
least_above [] (c ∷ text) = omega arith
least_above (b ∷ from) [] = omega arith
least_above (b ∷ from) (c ∷ text) = least_above from text

between_begins : (from text : Text) → starts_with ◌==◌ text from ≡ true → is_between from (from ++ above_next from text ∷ []) text ≡ true
unfolding above_next
between_begins [] [] h = refl
between_begins [] (c ∷ text) h = grind (arith, common_steps, nat_tests)
between_begins (b ∷ from) [] h = grind arith
between_begins (b ∷ from) (c ∷ text) h = grind (arith, common_steps, nat_tests, between_begins from text)

pub below_begins : (q r : ReferenceValue) → starts_with ◌==◌ (sort_key (key r)) (sort_prefix (key q)) ≡ is_some (reference_suffix q r)
below_begins q r =
    let from = sort_prefix (key q) in
    let text = sort_key (key r) in
    both_ways _ _
    (λ h. sym (below_has_suffix q r) ∙ sym (keys_between (above_next from text) (least_above from text) (key q) (key r)) ∙ between_begins from text h)
    (λ h. begins_between 2 from text (below_is_range q r ∙ h))

-- an end that is excluded, as ordered maps test it
past_end : (a b : Text) → not (is_le (text_order a b)) ≡ is_lt (text_order b a)
past_end a b = ap (λ o. not (is_le o)) (texts_total.antisymm a b) ∙ by (text_order b a)
  where
    by : (o : Ordering) → not (is_le (ordering_reverse o)) ≡ is_lt o
    by Less = refl
    by Equal = refl
    by Greater = refl

pub below_in_map : (q r : ReferenceValue) → range_contains text_order (Included (sort_prefix (key q))) (Excluded (sort_prefix_end (key q))) (sort_key (key r)) ≡ is_some (reference_suffix q r)
below_in_map q r =
    let from = sort_prefix (key q) in
    let text = sort_key (key r) in
    ap (λ b. is_le (text_order from text) && b) (past_end (sort_prefix_end (key q)) text) ∙ below_is_range q r

pub ruleset laws = (below_is_range, below_begins, below_in_map)

-- ---- both ends

-- the first end is not behind the second
pub runs_forward : (k : ReferenceValue) → IsLeBy text_order (sort_prefix k) (sort_prefix_end k)
runs_forward k = by (sort_prefix k)
  where
    by : (t : Text) → IsLeBy text_order t (t ++ 2 ∷ [])
    by [] = refl
    by (b ∷ t) = grind (arith, common_steps, nat_tests, by t)

pub ruleset ends = (runs_forward)
