-- The items of a canonical path as they are written from the back.
use Rattle.std.proofs.Common.{◌≡◌, ℕ, zero, suc, ◌+◌, ◌-◌, ◌≤◌, Bool, true, false, not, cond, ◌&&◌, List, [], ◌∷◌, ◌++◌, map, length, refl, sym, ◌∙◌, ap, subst, arith, codes, nat_lt}
use Rattle.std.proofs.{lemmas.Grind.{common_steps}, lemmas.List.{length-map}, lemmas.Bool.{and_parts}}
use Rattle.std.proofs.lemmas.Bool.Decides.{nat_tests}
use Rattle.std.specs.{List.{join_with_byte}, Cmp.Lexicographic.{bytes_decides}}
use Rattle.percent_encoding.specs.Percent.{percent_decode}
use Rattle.iref_grammar.specs.{Grammar.{slash}, Rules.{Text}, Texts.{is_empty}}
use Rattle.iref_grammar.specs.NormalList.{is_dot_dot}
use Rattle.iref_grammar.proofs.FitsLemmas.{is_empty-snoc}
use Rattle.iref_path.specs.Spelling.{each_closed}
use Rattle.iref_path.proofs.SpellLemmas.{each_closed-append, joined_before}
use Rattle.iref_canonical.specs.Canonical.{spelled_name, spelled_relative}
use Rattle.iref_canonical.specs.SpelledItems.{spelled_item, spelled_items, standing_before, standing_of}

-- ---- how many stand

pub standing-last : (front : List Text) (last : Text) → standing_of (front ++ last ∷ []) ≡ standing_before front 0
unfolding standing_of
standing-last [] last = grind arith
standing-last (x ∷ front) last = by (is_dot_dot x) (standing-last front last)
  where
    by : (b : Bool) → standing_of (front ++ last ∷ []) ≡ standing_before front 0
        → cond (b && not (is_empty (front ++ last ∷ []))) (suc (standing_of (front ++ last ∷ []))) 0 ≡ cond b (suc (standing_before front 0)) 0
    by true rest = (λ i. cond (not (is_empty-snoc front last i)) (suc (standing_of (front ++ last ∷ []))) 0) ∙ ap suc rest
    by false rest = refl

pub standing-nothing : standing_of [] ≡ 0
unfolding standing_of
standing-nothing = refl

pub standing-next : (front : List Text) (item : Text) (n : ℕ) → standing_before (front ++ item ∷ []) n ≡ standing_before front (cond (is_dot_dot item) (n + 1) 0)
standing-next [] item n = grind arith
standing-next (x ∷ front) item n = ap (λ m. cond (is_dot_dot x) (suc m) 0) (standing-next front item n)

pub standing-few : (items : List Text) → standing_of items ≤ length items - 1
unfolding standing_of
standing-few [] = omega arith
standing-few (x ∷ []) = grind arith
standing-few (x ∷ y ∷ rest) = grind (arith, standing-few (y ∷ rest))

-- ---- the items with those that stand

pub spelled-none : (raw : Bool) (items : List Text) → spelled_items raw 0 items ≡ map (spelled_name raw) items
unfolding spelled_items
spelled-none raw items = refl

pub spelled-nothing : (raw : Bool) (n : ℕ) → spelled_items raw n [] ≡ []
unfolding spelled_items
spelled-nothing raw zero = refl
spelled-nothing raw (suc n) = refl

pub spelled-relative : (raw : Bool) (items : List Text) → spelled_items raw (standing_of items) items ≡ spelled_relative raw items
unfolding spelled_items standing_of spelled_relative
spelled-relative raw [] = refl
spelled-relative raw (item ∷ rest) = by (is_dot_dot item && not (is_empty rest)) refl (spelled-relative raw rest)
  where
    by : (b : Bool) → (is_dot_dot item && not (is_empty rest)) ≡ b → spelled_items raw (standing_of rest) rest ≡ spelled_relative raw rest
        → spelled_items raw (cond b (suc (standing_of rest)) 0) (item ∷ rest) ≡ cond b (item ∷ spelled_relative raw rest) (map (spelled_name raw) (item ∷ rest))
    by true e same = λ i. sym ((bytes_decides item (codes "..")).0 (and_parts (is_dot_dot item) (not (is_empty rest)) e).0) i ∷ same i
    by false e same = refl

pub spelled-last : (raw : Bool) (n : ℕ) (front : List Text) (item : Text) → spelled_items raw n (front ++ item ∷ []) ≡ spelled_items raw n front ++ spelled_item raw (nat_lt (length front) n) item ∷ []
unfolding spelled_items
spelled-last raw zero [] item = grind arith
spelled-last raw zero (x ∷ front) item = grind (arith, nat_tests, spelled-last raw zero front item)
spelled-last raw (suc n) [] item = by n
  where
    by : (n : ℕ) → codes ".." ∷ spelled_items raw n [] ≡ spelled_item raw (nat_lt 0 (suc n)) item ∷ []
    by zero = grind (arith, nat_tests)
    by (suc n) = grind (arith, nat_tests)
spelled-last raw (suc n) (x ∷ front) item = grind (arith, nat_tests, spelled-last raw n front item)

-- ---- their text

-- an item with a `/` after it comes last
pub closed-last : (raw : Bool) (n : ℕ) (front : List Text) (item : Text)
    → each_closed (spelled_items raw n (front ++ item ∷ [])) ≡ each_closed (spelled_items raw n front) ++ (spelled_item raw (nat_lt (length front) n) item ++ slash ∷ [])
closed-last raw n front item =
    let stands = nat_lt (length front) n in
    ap each_closed (spelled-last raw n front item) ∙ each_closed-append (spelled_items raw n front) (spelled_item raw stands item ∷ []) ∙ grind (arith, common_steps)

pub closed-nothing : (raw : Bool) (n : ℕ) → each_closed (spelled_items raw n []) ≡ []
closed-nothing raw n = ap each_closed (spelled-nothing raw n)

-- and the last one without it, which does not stand
pub joined-last : (raw : Bool) (n : ℕ) (front : List Text) (item : Text) → n ≤ length front
    → join_with_byte slash (spelled_items raw n (front ++ item ∷ [])) ≡ each_closed (spelled_items raw n front) ++ spelled_name raw item
joined-last raw n front item h =
    ap (join_with_byte slash) (spelled-last raw n front item) ∙ sym (joined_before (spelled_items raw n front) (spelled_item raw (nat_lt (length front) n) item))
    ∙ grind (arith, nat_tests)

pub joined-nothing : (raw : Bool) (n : ℕ) → join_with_byte slash (spelled_items raw n []) ≡ []
joined-nothing raw n = ap (join_with_byte slash) (spelled-nothing raw n)

-- ---- decoded

pub decoded-last : (all front : List Text) (item : Text) → all ≡ front ++ item ∷ [] → map percent_decode all ≡ map percent_decode front ++ percent_decode item ∷ []
decoded-last all front item e = grind (arith, common_steps)

-- a list that is read from the back, where at of its items are left
pub one_less : (all front : List Text) (item : Text) (at : ℕ) → all ≡ front ++ item ∷ [] → at ≡ length all → length front ≡ at - 1
one_less all front item at e f = grind (arith, common_steps)

pub closed-step : (raw : Bool) (n : ℕ) (all front : List Text) (item : Text) (at : ℕ) → all ≡ front ++ item ∷ [] → at ≡ length all
    → each_closed (spelled_items raw n (map percent_decode all))
    ≡ each_closed (spelled_items raw n (map percent_decode front)) ++ (spelled_item raw (nat_lt (at - 1) n) (percent_decode item) ++ slash ∷ [])
closed-step raw n all front item at e f =
    let len : length (map percent_decode front) ≡ at - 1 = length-map front percent_decode ∙ one_less all front item at e f in
    ap (λ list. each_closed (spelled_items raw n list)) (decoded-last all front item e)
    ∙ closed-last raw n (map percent_decode front) (percent_decode item)
    ∙ ap (λ k. each_closed (spelled_items raw n (map percent_decode front)) ++ (spelled_item raw (nat_lt k n) (percent_decode item) ++ slash ∷ [])) len

pub closed-end : (raw : Bool) (n : ℕ) (all : List Text) → all ≡ [] → each_closed (spelled_items raw n (map percent_decode all)) ≡ []
closed-end raw n all e = ap (λ list. each_closed (spelled_items raw n (map percent_decode list))) e ∙ closed-nothing raw n

pub joined-step : (raw : Bool) (n : ℕ) (all front : List Text) (item : Text) (at : ℕ) → all ≡ front ++ item ∷ [] → at ≡ length all → n ≤ at - 1
    → join_with_byte slash (spelled_items raw n (map percent_decode all)) ≡ each_closed (spelled_items raw n (map percent_decode front)) ++ spelled_name raw (percent_decode item)
joined-step raw n all front item at e f h =
    let len : length (map percent_decode front) ≡ at - 1 = length-map front percent_decode ∙ one_less all front item at e f in
    ap (λ list. join_with_byte slash (spelled_items raw n list)) (decoded-last all front item e)
    ∙ joined-last raw n (map percent_decode front) (percent_decode item) (subst (λ k. n ≤ k) (sym len) h)

pub joined-end : (raw : Bool) (n : ℕ) (all : List Text) → all ≡ [] → join_with_byte slash (spelled_items raw n (map percent_decode all)) ≡ []
joined-end raw n all e = ap (λ list. join_with_byte slash (spelled_items raw n (map percent_decode list))) e ∙ joined-nothing raw n

pub standing-first : (all front : List Text) (last : Text) → all ≡ front ++ last ∷ [] → standing_before (map percent_decode front) 0 ≡ standing_of (map percent_decode all)
standing-first all front last e = sym (ap standing_of (decoded-last all front last e) ∙ standing-last (map percent_decode front) (percent_decode last))

pub standing-step : (all front : List Text) (item : Text) (n : ℕ) → all ≡ front ++ item ∷ []
    → standing_before (map percent_decode front) (cond (is_dot_dot (percent_decode item)) (n + 1) 0) ≡ standing_before (map percent_decode all) n
standing-step all front item n e = sym (ap (λ list. standing_before list n) (decoded-last all front item e) ∙ standing-next (map percent_decode front) (percent_decode item) n)

pub standing-end : (all : List Text) → all ≡ [] → standing_of (map percent_decode all) ≡ 0
standing-end all e = ap (λ list. standing_of (map percent_decode list)) e ∙ standing-nothing

pub ruleset steps = (joined-end, joined-step, closed-end, closed-step, one_less)

-- ---- where none stands

none_below : (k : ℕ) → nat_lt k 0 ≡ false
none_below k = grind (arith, nat_tests)

pub name-closed : (raw : Bool) (all front : List Text) (item : Text) → all ≡ front ++ item ∷ []
    → each_closed (spelled_items raw 0 (map percent_decode all)) ≡ each_closed (spelled_items raw 0 (map percent_decode front)) ++ (spelled_item raw false (percent_decode item) ++ slash ∷ [])
name-closed raw all front item e = ap (λ list. each_closed (spelled_items raw 0 list)) (decoded-last all front item e) ∙ closed-last raw 0 (map percent_decode front) (percent_decode item)
    ∙ ap (λ stands. each_closed (spelled_items raw 0 (map percent_decode front)) ++ (spelled_item raw stands (percent_decode item) ++ slash ∷ [])) (none_below (length (map percent_decode front)))

pub name-joined : (raw : Bool) (all front : List Text) (item : Text) → all ≡ front ++ item ∷ []
    → join_with_byte slash (spelled_items raw 0 (map percent_decode all)) ≡ each_closed (spelled_items raw 0 (map percent_decode front)) ++ spelled_name raw (percent_decode item)
name-joined raw all front item e = ap (λ list. join_with_byte slash (spelled_items raw 0 list)) (decoded-last all front item e) ∙ joined-last raw 0 (map percent_decode front) (percent_decode item) (omega arith)

pub ruleset names = (closed-end, joined-end, name-closed, name-joined)

pub ruleset stands = (standing-end, standing-first, standing-step)
