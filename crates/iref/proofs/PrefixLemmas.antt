-- Prefix tables.
use Rattle.std.proofs.Common.{◌≡◌, ◌≢◌, ◌<◌, ◌≤◌, Bool, true, false, ◌||◌, ◌&&◌, not, List, [], ◌∷◌, ◌++◌, length, map, take, drop, refl, sym, ◌∙◌, ap, subst, arith, ◌⊎◌, inl, inr, bytes_eq, Option, Some, None, Result, Ok, Err, option_map, is_some, MatchOption, if◌then◌else◌, true≢false}
use Rattle.std.proofs.{lemmas.Grind.{common_steps}, Math.Logic.{◌↔◌}}
use Rattle.std.proofs.lemmas.Bool.{and_from, or_parts, or_from, not_from_false, cond_both, cond-true, cases_Bool}
use Rattle.std.proofs.{lemmas.Option.{same_Some}, lemmas.List.{take-append-drop}, lemmas.List.Folds.{list_all-append}}
use Rattle.std.proofs.lemmas.Bool.{not-true}
use Rattle.std.specs.{Bool.{IsFalse}, List.{AllByRecursion, find, list_all, list_any}}
use Rattle.std.specs.Cmp.Lexicographic.{bytes_decides}
use Rattle.iref_grammar.specs.{Characters.{iri_chars}, Rules.{Text}, Grammar.{colon}, Texts.{begins_with, lacks}}
use Rattle.iref_grammar.specs.Reference.{is_uri}
use Rattle.iref_grammar.proofs.{TextLemmas.{first_of_both, second_of_both}, CutLemmas.{before-mark, after-part}}
use Rattle.iref.specs.{PrefixLabels.{is_label}, declared.compact.label.Labels.{Labels}}
use Rattle.iref.specs.PrefixTable.{PrefixEntry, PrefixTable, PrefixesValue, has_label, is_taken, get, InsertRefusal, BadLabel, Taken, inserted, with_iri, with_entry, replaced, removed, unless_refused, inserted_all, Change, Insert, Replace, Remove, changed, changed_all, brings_iri, labels_differ, IsPrefixTable, fits, or_longer, longest_fit, IsLongestFit, or_new, CompactValue, IsCompact, compacted, compact_text, NotAnIri, if_iri, expanded_parts, expanded}
use Rattle.iref.proofs.{PrefixLabelLemmas.{label_lacks}, PrefixPlaceLemmas.{removed_none}}

-- ---- the longest fit

-- an entry that fits is at least as long as what follows it
or_longer-case : (e later : PrefixEntry) → ((or_longer e (Some later) ≡ later) × (length e.iri < length later.iri)) ⊎ ((or_longer e (Some later) ≡ e) × (length later.iri ≤ length e.iri))
or_longer-case e later = grind arith

-- where none fits, each claim about those that fit holds
none_then : (iri : Text) (P : PrefixEntry → Type 0) (table : PrefixTable) → list_any (fits iri) table ≡ false → AllByRecursion (λ d. fits iri d ≡ true → P d) table
none_then iri P [] h = tt
none_then iri P (d ∷ table) h = grind (arith, common_steps, none_then iri P table)

-- where the longest fits, so does each shorter claim
weaker : (iri : Text) (P Q : PrefixEntry → Type 0) → ((d : PrefixEntry) → P d → Q d) → (table : PrefixTable) → AllByRecursion (λ d. fits iri d ≡ true → P d) table → AllByRecursion (λ d. fits iri d ≡ true → Q d) table
weaker iri P Q f [] all = tt
weaker iri P Q f (d ∷ table) all = (λ k. f d (all.0 k), weaker iri P Q f table all.1)

all-append : (P : PrefixEntry → Type 0) (xs ys : PrefixTable) → AllByRecursion P xs → AllByRecursion P ys → AllByRecursion P (xs ++ ys)
all-append P [] ys h k = k
all-append P (x ∷ xs) ys h k = (h.0, all-append P xs ys h.1 k)

-- all entries are no longer than the longest fit
none_longer : (iri : Text) (table : PrefixTable) (e : PrefixEntry) → IsLongestFit iri table e → AllByRecursion (λ d. fits iri d ≡ true → length d.iri ≤ length e.iri) table
none_longer iri table e m =
    subst (AllByRecursion (λ (d : PrefixEntry). fits iri d ≡ true → length d.iri ≤ length e.iri)) m.stands
    (all-append (λ (d : PrefixEntry). fits iri d ≡ true → length d.iri ≤ length e.iri) m.front (e ∷ m.back)
    (weaker iri (λ (d : PrefixEntry). length d.iri < length e.iri) (λ (d : PrefixEntry). length d.iri ≤ length e.iri) (λ d k. omega arith) m.front m.before) (λ k. omega arith, m.behind))

-- one more entry in front
fit_behind : (iri : Text) (table : PrefixTable) (e d : PrefixEntry) → (fits iri e ≡ true → length e.iri < length d.iri) → IsLongestFit iri table d → IsLongestFit iri (e ∷ table) d
fit_behind iri table e d h m = record { front = e ∷ m.front; back = m.back; stands = ap (λ t. e ∷ t) m.stands; fit = m.fit; before = (h, m.before); behind = m.behind }

fit_first : (iri : Text) (table : PrefixTable) (e : PrefixEntry) → fits iri e ≡ true → AllByRecursion (λ (d : PrefixEntry). fits iri d ≡ true → length d.iri ≤ length e.iri) table → IsLongestFit iri (e ∷ table) e
fit_first iri table e h all = record { front = []; back = table; stands = refl; fit = h; before = tt; behind = all }

pub longest_fit-is : (iri : Text) (table : PrefixTable) → MatchOption (longest_fit iri table) (IsFalse (list_any (fits iri) table)) (IsLongestFit iri table)
unfolding longest_fit
longest_fit-is iri [] = refl
longest_fit-is iri (e ∷ table) = by (fits iri e) refl (longest_fit iri table) (longest_fit-is iri table)
  where
    by : (b : Bool) → fits iri e ≡ b → (o : Option PrefixEntry) → MatchOption o (IsFalse (list_any (fits iri) table)) (IsLongestFit iri table)
        → MatchOption (if b then Some (or_longer e o) else o) (IsFalse (b || list_any (fits iri) table)) (IsLongestFit iri (e ∷ table))
    by true h None m = fit_first iri table e h (none_then iri (λ (d : PrefixEntry). length d.iri ≤ length e.iri) table m)
    by true h (Some d) m = elim (or_longer-case e d) [
      | inl c ↦ subst (IsLongestFit iri (e ∷ table)) (sym c.0) (fit_behind iri table e d (λ k. c.1) m)
      | inr c ↦ subst (IsLongestFit iri (e ∷ table)) (sym c.0) (fit_first iri table e h (weaker iri (λ (x : PrefixEntry). length x.iri ≤ length d.iri) (λ (x : PrefixEntry). length x.iri ≤ length e.iri) (λ x k. let l = c.1 in omega arith) table (none_longer iri table d m)))
    ]
    by false h None m = m
    by false h (Some d) m = fit_behind iri table e d (λ k. absurd (true≢false (sym k ∙ h))) m

-- ---- no other entry is it

at_place : (P : PrefixEntry → Type 0) (front : PrefixTable) (d : PrefixEntry) (back : PrefixTable) → AllByRecursion P (front ++ d ∷ back) → P d
at_place P [] d back all = all.0
at_place P (x ∷ front) d back all = at_place P front d back all.1

-- where the later ones are no longer, the entry is the longest
or_longer-first : (iri : Text) (table : PrefixTable) (e : PrefixEntry) → AllByRecursion (λ (d : PrefixEntry). fits iri d ≡ true → length d.iri ≤ length e.iri) table → or_longer e (longest_fit iri table) ≡ e
or_longer-first iri table e all = by (longest_fit iri table) (longest_fit-is iri table)
  where
    by : (o : Option PrefixEntry) → MatchOption o (IsFalse (list_any (fits iri) table)) (IsLongestFit iri table) → or_longer e o ≡ e
    by None m = refl
    by (Some d) m =
        let short : length d.iri ≤ length e.iri = at_place (λ (x : PrefixEntry). fits iri x ≡ true → length x.iri ≤ length e.iri) m.front d m.back
        (subst (AllByRecursion (λ (x : PrefixEntry). fits iri x ≡ true → length x.iri ≤ length e.iri)) (sym m.stands) all) m.fit in
        elim (or_longer-case e d) [ inl c ↦ absurd (let l = c.1 in omega arith) | inr c ↦ c.0 ]

pub longest_fit-only : (iri : Text) (table : PrefixTable) (e : PrefixEntry) → IsLongestFit iri table e → longest_fit iri table ≡ Some e
unfolding longest_fit
longest_fit-only iri table e m = ap (longest_fit iri) (sym m.stands) ∙ by m.front m.before
  where
    one : (x : PrefixEntry) → (fits iri x ≡ true → length x.iri < length e.iri) → (b : Bool) → fits iri x ≡ b → (if b then Some (or_longer x (Some e)) else Some e) ≡ Some e
    one x h false f = refl
    one x h true f = elim (or_longer-case x e) [ inl c ↦ ap (λ d. Some d) c.0 | inr c ↦ absurd (let short = h f in let l = c.1 in omega arith) ]

    by : (front : PrefixTable) → AllByRecursion (λ (d : PrefixEntry). fits iri d ≡ true → length d.iri < length e.iri) front → longest_fit iri (front ++ e ∷ m.back) ≡ Some e
    by [] all = ap (λ b. if b then Some (or_longer e (longest_fit iri m.back)) else longest_fit iri m.back) m.fit ∙ ap (λ d. Some d) (or_longer-first iri m.back e m.behind)
    by (x ∷ front) all = ap (λ o. if fits iri x then Some (or_longer x o) else o) (by front all.1) ∙ one x all.0 (fits iri x) refl

-- ---- a scan from the first entry to the last

or_longer-assoc : (x d e : PrefixEntry) → or_longer x (Some (or_longer d (Some e))) ≡ or_longer (or_longer x (Some d)) (Some e)
or_longer-assoc x d e = grind arith

pub longest_fit-snoc : (iri : Text) (table : PrefixTable) (e : PrefixEntry) → longest_fit iri (table ++ e ∷ []) ≡ (if fits iri e then Some (or_new (longest_fit iri table) e) else longest_fit iri table)
unfolding longest_fit
longest_fit-snoc iri [] e = refl
longest_fit-snoc iri (x ∷ table) e = ap (λ o. if fits iri x then Some (or_longer x o) else o) (longest_fit-snoc iri table e) ∙ by (fits iri x) (fits iri e) (longest_fit iri table)
  where
    by : (fx fe : Bool) (o : Option PrefixEntry) → let new : Option PrefixEntry = if fe then Some (or_new o e) else o in
        (if fx then Some (or_longer x new) else new) ≡ (if fe then Some (or_new (if fx then Some (or_longer x o) else o) e) else (if fx then Some (or_longer x o) else o))
    by fx false o = refl
    by false true o = refl
    by true true None = refl
    by true true (Some d) = ap (λ y. Some y) (or_longer-assoc x d e)

-- ---- labels

not_true : (b : Bool) → (b ≡ true → ⊥) → b ≡ false
not_true true h = absurd (h refl)
not_true false h = refl

same_label : (a b : Text) → bytes_eq a b ≡ true → a ≡ b
same_label a b h = (bytes_decides a b).0 h

label_itself : (a : Text) → bytes_eq a a ≡ true
label_itself a = (bytes_decides a a).1 refl

label_turned : (a b : Text) → bytes_eq a b ≡ false → bytes_eq b a ≡ false
label_turned a b h = not_true (bytes_eq b a) (λ k. true≢false (sym ((bytes_decides a b).1 (sym (same_label b a k))) ∙ h))

-- a label is taken exactly if it has an entry
pub is_taken-get : (label : Text) (table : PrefixTable) → is_taken label table ≡ is_some (get label table)
unfolding get
is_taken-get label [] = refl
is_taken-get label (e ∷ table) = grind (arith, common_steps, is_taken-get label table)

-- each entry is found by its label
pub get-entry : (front : PrefixTable) (e : PrefixEntry) (back : PrefixTable) → labels_differ (front ++ e ∷ back) ≡ true → get e.label (front ++ e ∷ back) ≡ Some e.iri
unfolding get
get-entry [] e back h = grind (arith, common_steps, label_itself)
get-entry (x ∷ front) e back h = grind (arith, common_steps, not-true, first_of_both, label_turned, second_of_both, or_parts, get-entry front e back)

-- ---- shortened and expanded

begins-joins : (front text : Text) → begins_with front text ≡ true → front ++ drop (length front) text ≡ text
begins-joins front text h = ap (λ t. t ++ drop (length front) text) (same_label front (take (length front) text) h) ∙ take-append-drop (length front) text

label_at : (labels : Labels) (front : PrefixTable) (e : PrefixEntry) (back : PrefixTable) → list_all (λ (x : PrefixEntry). is_label labels x.label) (front ++ e ∷ back) ≡ true → is_label labels e.label ≡ true
label_at labels [] e back h = first_of_both (is_label labels e.label) (list_all (λ (x : PrefixEntry). is_label labels x.label) back) h
label_at labels (x ∷ front) e back h = label_at labels front e back (second_of_both (is_label labels x.label) (list_all (λ (y : PrefixEntry). is_label labels y.label) (front ++ e ∷ back)) h)

expanded-fit : (iri : Text) (table : PrefixesValue) (e : PrefixEntry) → IsPrefixTable table → is_uri iri_chars iri ≡ true → IsLongestFit iri table.entries e
    → expanded (e.label ++ colon ∷ drop (length e.iri) iri) table.entries ≡ Ok iri
unfolding expanded
expanded-fit iri table e t full m =
    let rest = drop (length e.iri) iri in
    let label : lacks colon e.label ≡ true = label_lacks table.labels e.label (label_at table.labels m.front e m.back (subst (λ x. list_all (λ (y : PrefixEntry). is_label table.labels y.label) x ≡ true) (sym m.stands) t.labels)) in
    let found : get e.label table.entries ≡ Some e.iri = ap (get e.label) (sym m.stands) ∙ get-entry m.front e m.back (subst (λ x. labels_differ x ≡ true) (sym m.stands) t.differ) in
    (λ i. expanded_parts (get (before-mark colon e.label rest label i) table.entries) (after-part colon e.label (Some rest) label i))
    ∙ (λ i. expanded_parts (found i) (Some rest)) ∙ ap if_iri (begins-joins e.iri iri m.fit) ∙ ap (λ b. if b then Ok iri else Err NotAnIri) full

pub compacted-is : (iri : Text) (table : PrefixTable) → MatchOption (compacted iri table) (IsFalse (list_any (fits iri) table)) (IsCompact iri table)
unfolding compacted
compacted-is iri table = by (longest_fit iri table) (longest_fit-is iri table)
  where
    by : (o : Option PrefixEntry) → MatchOption o (IsFalse (list_any (fits iri) table)) (IsLongestFit iri table)
        → MatchOption (option_map (λ (e : PrefixEntry). record { label = e.label; rest = drop (length e.iri) iri }) o) (IsFalse (list_any (fits iri) table)) (IsCompact iri table)
    by None m = m
    by (Some e) m = record { entry = e; longest = m; label = refl; rest = begins-joins e.iri iri m.fit }

-- what was shortened expands to the text that it was
pub expanded-compacted : (iri : Text) (table : PrefixesValue) (c : CompactValue) → IsPrefixTable table → is_uri iri_chars iri ≡ true → compacted iri table.entries ≡ Some c
    → expanded (compact_text c) table.entries ≡ Ok iri
unfolding compacted
expanded-compacted iri table c t full found = by (longest_fit iri table.entries) (longest_fit-is iri table.entries) found
  where
    by : (o : Option PrefixEntry) → MatchOption o (IsFalse (list_any (fits iri) table.entries)) (IsLongestFit iri table.entries)
        → option_map (λ (e : PrefixEntry). record { label = e.label; rest = drop (length e.iri) iri }) o ≡ Some c → expanded (compact_text c) table.entries ≡ Ok iri
    by None m k = absurd (cc k)
    by (Some e) m k = ap (λ (d : CompactValue). expanded (compact_text d) table.entries) (sym (same_Some _ c k)) ∙ expanded-fit iri table e t full m

pub expanded_is_iri : (text iri : Text) (table : PrefixTable) → expanded text table ≡ Ok iri → is_uri iri_chars iri ≡ true
unfolding expanded
expanded_is_iri text iri table h = grind arith

-- ---- inserts

-- the cases of an insert
pub record IsInserted (label iri : Text) (table new : PrefixesValue) : Type 0 where
  pub label_in_rule : is_label table.labels label ≡ true
  pub free : is_taken label table.entries ≡ false
  pub labels : table.labels ≡ new.labels
  pub stands : table.entries ++ record { label = label; iri = iri } ∷ [] ≡ new.entries

pub inserted-ok : (label iri : Text) (table new : PrefixesValue) → inserted label iri table ≡ Ok new → IsInserted label iri table new
unfolding inserted
inserted-ok label iri table new h = grind arith

-- labels are found in the order of the entries
find-snoc : (label : Text) (table : PrefixTable) (e : PrefixEntry) → find (has_label label) (table ++ e ∷ []) ≡ (if is_taken label table then find (has_label label) table else (if has_label label e then Some e else None))
find-snoc label [] e = refl
find-snoc label (x ∷ table) e = grind (arith, common_steps, find-snoc label table e)

pub get-new : (label iri : Text) (table new : PrefixesValue) → inserted label iri table ≡ Ok new → get label new.entries ≡ Some iri
unfolding get
get-new label iri table new h = grind (arith, common_steps, inserted-ok, find-snoc, label_itself)

none_found : (label : Text) (table : PrefixTable) → is_taken label table ≡ false → find (has_label label) table ≡ None
none_found label [] h = refl
none_found label (x ∷ table) h = grind (arith, common_steps, none_found label table)

pub get-others : (label iri other : Text) (table new : PrefixesValue) → inserted label iri table ≡ Ok new → other ≢ label → get other new.entries ≡ get other table.entries
unfolding get
get-others label iri other table new h ne =
    let i = inserted-ok label iri table new h in
    let e : PrefixEntry = record { label = label; iri = iri } in
    ap (λ t. option_map (λ (x : PrefixEntry). x.iri) (find (has_label other) t)) (sym i.stands)
    ∙ ap (option_map (λ (x : PrefixEntry). x.iri)) (find-snoc other table.entries e)
    ∙ ap (λ b. option_map (λ (x : PrefixEntry). x.iri) (if is_taken other table.entries then find (has_label other) table.entries else (if b then Some e else None))) (not_true (bytes_eq label other) (λ k. ne (sym (same_label label other k))))
    ∙ ap (option_map (λ (x : PrefixEntry). x.iri)) (by (is_taken other table.entries) refl)
  where
    by : (b : Bool) → is_taken other table.entries ≡ b → (if b then find (has_label other) table.entries else None) ≡ find (has_label other) table.entries
    by true k = refl
    by false k = sym (none_found other table.entries k)

-- an insert keeps a table one
labels_differ-snoc : (table : PrefixTable) (e : PrefixEntry) → labels_differ table ≡ true → is_taken e.label table ≡ false → labels_differ (table ++ e ∷ []) ≡ true
labels_differ-snoc [] e h k = refl
labels_differ-snoc (x ∷ table) e h k = grind (arith, common_steps, or_parts, label_turned, first_of_both, second_of_both, labels_differ-snoc table e)

all_snoc : (test : PrefixEntry → Bool) (table : PrefixTable) (e : PrefixEntry) → list_all test table ≡ true → test e ≡ true → list_all test (table ++ e ∷ []) ≡ true
all_snoc test table e h k = list_all-append test table (e ∷ []) ∙ and_from _ _ h (and_from _ _ k refl)

pub table-new : (label iri : Text) (table new : PrefixesValue) → IsPrefixTable table → is_uri iri_chars iri ≡ true → inserted label iri table ≡ Ok new → IsPrefixTable new
table-new label iri table new t full h = grind (arith, common_steps, inserted-ok, all_snoc, labels_differ-snoc)

-- ---- removals and replacements

-- a replacement leaves each label where it stands
with_iri_label : (label iri : Text) (e : PrefixEntry) → (with_iri label iri e).label ≡ e.label
with_iri_label label iri e = by (has_label label e) refl
  where
    by : (b : Bool) → has_label label e ≡ b → let new : PrefixEntry = if b then record { label = label; iri = iri } else e in new.label ≡ e.label
    by true h = sym (same_label e.label label h)
    by false h = refl

pub labels_changed : (label iri : Text) (table : PrefixTable) → map (λ (e : PrefixEntry). e.label) (map (with_iri label iri) table) ≡ map (λ (e : PrefixEntry). e.label) table
labels_changed label iri [] = refl
labels_changed label iri (e ∷ table) = (λ i. with_iri_label label iri e i ∷ labels_changed label iri table i)

pub is_taken_changed : (other label iri : Text) (table : PrefixTable) → is_taken other (map (with_iri label iri) table) ≡ is_taken other table
is_taken_changed other label iri [] = refl
is_taken_changed other label iri (e ∷ table) = (λ i. bytes_eq (with_iri_label label iri e i) other || is_taken_changed other label iri table i)

all_changed : (labels : Labels) (label iri : Text) (table : PrefixTable) → list_all (λ (e : PrefixEntry). is_label labels e.label) (map (with_iri label iri) table) ≡ list_all (λ (e : PrefixEntry). is_label labels e.label) table
all_changed labels label iri [] = refl
all_changed labels label iri (e ∷ table) = (λ i. is_label labels (with_iri_label label iri e i) && all_changed labels label iri table i)

differ_changed : (label iri : Text) (table : PrefixTable) → labels_differ (map (with_iri label iri) table) ≡ labels_differ table
differ_changed label iri [] = refl
differ_changed label iri (e ∷ table) =
    (λ i. not (is_taken (with_iri_label label iri e i) (map (with_iri label iri) table)) && labels_differ (map (with_iri label iri) table))
    ∙ (λ i. not (is_taken_changed e.label label iri table i) && differ_changed label iri table i)

iris_changed : (label iri : Text) (table : PrefixTable) → is_uri iri_chars iri ≡ true → list_all (λ (e : PrefixEntry). is_uri iri_chars e.iri) table ≡ true
    → list_all (λ (e : PrefixEntry). is_uri iri_chars e.iri) (map (with_iri label iri) table) ≡ true
iris_changed label iri [] full h = refl
iris_changed label iri (e ∷ table) full h =
    and_from _ _ (by (has_label label e)) (iris_changed label iri table full (second_of_both (is_uri iri_chars e.iri) (list_all (λ (x : PrefixEntry). is_uri iri_chars x.iri) table) h))
  where
    by : (b : Bool) → let new : PrefixEntry = if b then record { label = label; iri = iri } else e in is_uri iri_chars new.iri ≡ true
    by true = full
    by false = first_of_both (is_uri iri_chars e.iri) (list_all (λ (x : PrefixEntry). is_uri iri_chars x.iri) table) h

pub table-changed : (label iri : Text) (table : PrefixesValue) → IsPrefixTable table → is_uri iri_chars iri ≡ true → IsPrefixTable (record table { entries = map (with_iri label iri) table.entries })
table-changed label iri table t full = record {
  labels = all_changed table.labels label iri table.entries ∙ t.labels;
  differ = differ_changed label iri table.entries ∙ t.differ;
  iris = iris_changed label iri table.entries full t.iris;
}

-- what is left is a part of what was there
free_removed : (other label : Text) (table : PrefixTable) → is_taken other table ≡ false → is_taken other (removed label table) ≡ false
unfolding removed
free_removed other label [] h = refl
free_removed other label (e ∷ table) h =
    let parts = or_parts (has_label other e) (is_taken other table) h in
    cond_both (not (has_label label e)) (e ∷ removed label table) (removed label table) (λ t. is_taken other t ≡ false)
    (λ k. or_from _ _ parts.0 (free_removed other label table parts.1)) (λ k. free_removed other label table parts.1)

all_removed : (test : PrefixEntry → Bool) (label : Text) (table : PrefixTable) → list_all test table ≡ true → list_all test (removed label table) ≡ true
unfolding removed
all_removed test label [] h = refl
all_removed test label (e ∷ table) h =
    let left = all_removed test label table (second_of_both (test e) (list_all test table) h) in
    cond_both (not (has_label label e)) (e ∷ removed label table) (removed label table) (λ t. list_all test t ≡ true)
    (λ k. and_from _ _ (first_of_both (test e) (list_all test table) h) left) (λ k. left)

differ_removed : (label : Text) (table : PrefixTable) → labels_differ table ≡ true → labels_differ (removed label table) ≡ true
unfolding removed
differ_removed label [] h = refl
differ_removed label (e ∷ table) h =
    let new : is_taken e.label table ≡ false = not-true (is_taken e.label table) (first_of_both (not (is_taken e.label table)) (labels_differ table) h) in
    let left = differ_removed label table (second_of_both (not (is_taken e.label table)) (labels_differ table) h) in
    cond_both (not (has_label label e)) (e ∷ removed label table) (removed label table) (λ t. labels_differ t ≡ true)
    (λ k. and_from _ _ (not_from_false _ (free_removed e.label label table new)) left) (λ k. left)

pub table-removed : (label : Text) (table : PrefixesValue) → IsPrefixTable table → IsPrefixTable (record table { entries = removed label table.entries })
table-removed label table t = record {
  labels = all_removed (λ (e : PrefixEntry). is_label table.labels e.label) label table.entries t.labels;
  differ = differ_removed label table.entries t.differ;
  iris = all_removed (λ (e : PrefixEntry). is_uri iri_chars e.iri) label table.entries t.iris;
}

same_Ok : {a b : PrefixesValue} → ◌≡◌ {A = Result PrefixesValue InsertRefusal} (Ok a) (Ok b) → a ≡ b
same_Ok h = cc

-- the cases of a replacement
pub record IsReplaced (label iri : Text) (table new : PrefixesValue) : Type 0 where
  pub label_in_rule : is_label table.labels label ≡ true
  pub labels : table.labels ≡ new.labels
  pub stands : with_entry label iri table.entries ≡ new.entries

pub replaced-ok : (label iri : Text) (table new : PrefixesValue) → replaced label iri table ≡ Ok new → IsReplaced label iri table new
unfolding replaced
replaced-ok label iri table new h = grind arith

-- a label that has no entry is inserted
pub replaced-free : (label iri : Text) (table : PrefixesValue) → is_taken label table.entries ≡ false → replaced label iri table ≡ inserted label iri table
unfolding replaced inserted
replaced-free label iri table free = grind arith

pub replaced-taken : (label iri : Text) (table : PrefixesValue) → is_label table.labels label ≡ true → is_taken label table.entries ≡ true → replaced label iri table ≡ Ok (record table { entries = map (with_iri label iri) table.entries })
unfolding replaced
replaced-taken label iri table allowed taken = grind arith

pub table-replaced : (label iri : Text) (table new : PrefixesValue) → IsPrefixTable table → is_uri iri_chars iri ≡ true → replaced label iri table ≡ Ok new → IsPrefixTable new
table-replaced label iri table new t full h =
    let is = replaced-ok label iri table new h in
    elim (cases_Bool (is_taken label table.entries)) [
      | inl taken ↦ subst IsPrefixTable (same_Ok (sym (replaced-taken label iri table is.label_in_rule taken) ∙ h)) (table-changed label iri table t full)
      | inr free ↦ table-new label iri table new t full (sym (replaced-free label iri table free) ∙ h)
    ]

-- ---- what is found then

is_taken-removed : (label : Text) (table : PrefixTable) → is_taken label (removed label table) ≡ false
unfolding removed
is_taken-removed label [] = refl
is_taken-removed label (e ∷ table) =
    cond_both (not (has_label label e)) (e ∷ removed label table) (removed label table) (λ t. is_taken label t ≡ false)
    (λ k. or_from _ _ (not-true (has_label label e) k) (is_taken-removed label table)) (λ k. is_taken-removed label table)

pub get-removed : (label : Text) (table : PrefixTable) → get label (removed label table) ≡ None
unfolding get
get-removed label table = ap (option_map (λ (e : PrefixEntry). e.iri)) (none_found label (removed label table) (is_taken-removed label table))

-- what has one label has no other
other_label : (label other : Text) (e : PrefixEntry) → other ≢ label → has_label label e ≡ true → has_label other e ≡ false
other_label label other e ne h = not_true (has_label other e) (λ k. ne (sym (same_label e.label other k) ∙ same_label e.label label h))

pub get-left : (label other : Text) (table : PrefixTable) → other ≢ label → get other (removed label table) ≡ get other table
unfolding get removed
get-left label other [] ne = refl
get-left label other (e ∷ table) ne = grind (arith, common_steps, other_label label other e ne, get-left label other table ne)

pub removed-twice : (label : Text) (table : PrefixTable) → removed label (removed label table) ≡ removed label table
removed-twice label table = removed_none label (removed label table) (is_taken-removed label table)

pub removed-order : (front : PrefixTable) (e : PrefixEntry) (back : PrefixTable) → labels_differ (front ++ e ∷ back) ≡ true → removed e.label (front ++ e ∷ back) ≡ front ++ back
unfolding removed
removed-order [] e back h = grind (arith, common_steps, label_itself, not-true, first_of_both, removed_none)
removed-order (x ∷ front) e back h = grind (arith, common_steps, not-true, first_of_both, label_turned, second_of_both, or_parts, removed-order front e back)

removed_last : (label iri : Text) (table : PrefixTable) → is_taken label table ≡ false → removed label (table ++ record { label = label; iri = iri } ∷ []) ≡ table
unfolding removed
removed_last label iri [] free = grind (arith, common_steps, label_itself)
removed_last label iri (e ∷ table) free = grind (arith, common_steps, or_parts, removed_last label iri table)

pub removed-inserted : (label iri : Text) (table new : PrefixesValue) → inserted label iri table ≡ Ok new → removed label new.entries ≡ table.entries
removed-inserted label iri table new h =
    let is = inserted-ok label iri table new h in ap (removed label) (sym is.stands) ∙ removed_last label iri table.entries is.free

get_changed : (label iri : Text) (table : PrefixTable) → is_taken label table ≡ true → get label (map (with_iri label iri) table) ≡ Some iri
unfolding get
get_changed label iri [] taken = absurd (true≢false (sym taken))
get_changed label iri (e ∷ table) taken = grind (arith, common_steps, label_itself, get_changed label iri table)

get_unchanged : (label iri other : Text) (table : PrefixTable) → other ≢ label → get other (map (with_iri label iri) table) ≡ get other table
unfolding get
get_unchanged label iri other [] ne = refl
get_unchanged label iri other (e ∷ table) ne = grind (arith, common_steps, other_label label other e ne, with_iri_label label iri e, get_unchanged label iri other table ne)

module _ (label iri : Text) (table new : PrefixesValue) (h : replaced label iri table ≡ Ok new) where
  -- the label has an entry, or is inserted
  either_way : ((is_taken label table.entries ≡ true) × (map (with_iri label iri) table.entries ≡ new.entries)) ⊎ (inserted label iri table ≡ Ok new)
  either_way =
      let is = replaced-ok label iri table new h in
      elim (cases_Bool (is_taken label table.entries)) [
        | inl taken ↦ inl (taken, sym (cond-true (is_taken label table.entries) (map (with_iri label iri) table.entries) (table.entries ++ record { label = label; iri = iri } ∷ []) taken) ∙ is.stands)
        | inr free ↦ inr (sym (replaced-free label iri table free) ∙ h)
      ]

  pub get-replaced : get label new.entries ≡ Some iri
  get-replaced = elim either_way [ inl (taken, is) ↦ ap (get label) (sym is) ∙ get_changed label iri table.entries taken | inr new_one ↦ get-new label iri table new new_one ]

  pub get-replaced_others : (other : Text) → other ≢ label → get other new.entries ≡ get other table.entries
  get-replaced_others other ne = elim either_way [
    | inl (taken, is) ↦ ap (get other) (sym is) ∙ get_unchanged label iri other table.entries ne
    | inr new_one ↦ get-others label iri other table new new_one ne
  ]

  pub replaced-order : is_taken label table.entries ≡ true → map (λ (e : PrefixEntry). e.label) new.entries ≡ map (λ (e : PrefixEntry). e.label) table.entries
  replaced-order taken =
      let is = replaced-ok label iri table new h in
      ap (map (λ (e : PrefixEntry). e.label)) (sym is.stands ∙ cond-true (is_taken label table.entries) (map (with_iri label iri) table.entries) (table.entries ++ record { label = label; iri = iri } ∷ []) taken)
      ∙ labels_changed label iri table.entries

pub replaced-bad_label : (label iri : Text) (table : PrefixesValue) → (replaced label iri table ≡ Err BadLabel) ↔ IsFalse (is_label table.labels label)
unfolding replaced
replaced-bad_label label iri table = grind arith

-- ---- changes in a row

changed_is : (change : Change) (table new : PrefixesValue) → IsPrefixTable table → brings_iri change ≡ true → changed change table ≡ Ok new → IsPrefixTable new
unfolding changed
changed_is (Insert e) table new t full h = table-new e.label e.iri table new t full h
changed_is (Replace e) table new t full h = table-replaced e.label e.iri table new t full h
changed_is (Remove label) table new t full h = subst IsPrefixTable (same_Ok h) (table-removed label table t)

pub table-changes : (changes : List Change) (table new : PrefixesValue) → IsPrefixTable table → list_all brings_iri changes ≡ true → changed_all changes table ≡ Some new → IsPrefixTable new
unfolding changed_all
table-changes [] table new t h k = subst IsPrefixTable (same_Some table new k) t
table-changes (change ∷ changes) table new t h k =
    by (changed change table) refl k
    (λ next f. table-changes changes next new (changed_is change table next t (first_of_both (brings_iri change) (list_all brings_iri changes) h) f) (second_of_both (brings_iri change) (list_all brings_iri changes) h))
  where
    by : (r : Result PrefixesValue InsertRefusal) → changed change table ≡ r → unless_refused (changed_all changes) r ≡ Some new
        → ((next : PrefixesValue) → changed change table ≡ Ok next → changed_all changes next ≡ Some new → IsPrefixTable new) → IsPrefixTable new
    by (Ok next) f l rest = rest next f l
    by (Err refusal) f l rest = absurd (cc l)

-- inserts in a row are such changes
pub inserted_all-changes : (entries : List PrefixEntry) (table : PrefixesValue) → inserted_all entries table ≡ changed_all (map Insert entries) table
unfolding inserted_all changed_all changed
inserted_all-changes [] table = refl
inserted_all-changes (e ∷ entries) table = by (inserted e.label e.iri table) (inserted_all-changes entries)
  where
    by : (r : Result PrefixesValue InsertRefusal) → ((next : PrefixesValue) → inserted_all entries next ≡ changed_all (map Insert entries) next)
        → unless_refused (inserted_all entries) r ≡ unless_refused (changed_all (map Insert entries)) r
    by (Ok next) same = same next
    by (Err refusal) same = refl

bring_iris : (entries : List PrefixEntry) → list_all (λ (e : PrefixEntry). is_uri iri_chars e.iri) entries ≡ list_all brings_iri (map Insert entries)
bring_iris [] = refl
bring_iris (e ∷ entries) = ap (λ b. is_uri iri_chars e.iri && b) (bring_iris entries)

pub table-all : (entries : List PrefixEntry) (table new : PrefixesValue) → IsPrefixTable table → list_all (λ (e : PrefixEntry). is_uri iri_chars e.iri) entries ≡ true
    → inserted_all entries table ≡ Some new → IsPrefixTable new
table-all entries table new t h k = table-changes (map Insert entries) table new t (sym (bring_iris entries) ∙ h) (sym (inserted_all-changes entries table) ∙ k)

pub table-nil : (labels : Labels) → IsPrefixTable (record { labels = labels; entries = [] })
table-nil labels = record { labels = refl; differ = refl; iris = refl }

-- why an insert is refused
pub inserted-bad_label : (label iri : Text) (table : PrefixesValue) → (inserted label iri table ≡ Err BadLabel) ↔ IsFalse (is_label table.labels label)
unfolding inserted
inserted-bad_label label iri table = grind arith

pub inserted-taken : (label iri : Text) (table : PrefixesValue) → (inserted label iri table ≡ Err Taken) ↔ ((is_label table.labels label ≡ true) × (is_some (get label table.entries) ≡ true))
unfolding inserted
inserted-taken label iri table = grind (arith, common_steps, is_taken-get)

-- what are laws of prefix tables
pub ruleset laws = (expanded-compacted, expanded_is_iri, inserted-ok, get-new, get-others, inserted-bad_label, inserted-taken)
