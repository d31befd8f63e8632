-- Several edits of one path, seen as one.
use Rattle.std.proofs.Common.{rules, Bool, not, true, false, ◌≡◌, ℕ, ◌+◌, ◌≤◌, List, [], ◌∷◌, ◌++◌, length, fold, map, refl, subst, arith}
use Rattle.std.proofs.{lemmas.Grind.{common_steps}, lemmas.Iterator.{items_from_drains}}
use Rattle.std.proofs.{lemmas.Iterator.Consumers.{YieldsList-from_first}, lemmas.List.{places, same_lists, map-append}}
use Rattle.std.proofs.lemmas.List.Sums.{fold-append}
use Rattle.std.specs.{List.{splice, slice_range}, Iterator.{Drains, YieldsFirstBy}}
use Rattle.iref_grammar.specs.{declared.context.PathContext.{PathContext}, Rules.{Text}}
use Rattle.iref_grammar.specs.{PathValue.{PathValue, read_path}, Contexts.{alone}}
use Rattle.iref_grammar.proofs.PathLemmas.{read_path-reads}
use Rattle.iref_grammar.specs.NormalList.{is_name, ends_in_dots}
use Rattle.iref_grammar.specs.PathSteps.{lazy_pushed, lazy_appended, followed, pushed, closed_path, appended, joined, from_segments}
use Rattle.iref_grammar.proofs.ItemLemmas.{ends-last}
use Rattle.iref_component.specs.declared.path_mut.PathMut.{PathMut}
use Rattle.iref_component.specs.PathEdits.{edited_bytes, path_mut_context, path_mut_text, path_mut_value, IsEditorOf, BecomesPath, IsUnchanged}
use Rattle.iref_component.proofs.PathEditLemmas.{slice_all}

splice_same : (bytes : Text) (start end : ℕ) → start ≤ end → end ≤ length bytes → splice bytes start end (slice_range bytes start end) ≡ bytes
splice_same bytes start end a b = same_lists _ _ (search (rules, places)) (λ k d h. grind (arith, places))

slice_len : (bytes : Text) (start end : ℕ) → start ≤ end → end ≤ length bytes → start + length (slice_range bytes start end) ≡ end
slice_len bytes start end a b = grind (arith, places)

splice_over : (bytes first second : Text) (start end : ℕ) → start ≤ end → end ≤ length bytes → splice (splice bytes start end first) start (start + length first) second ≡ splice bytes start end second
splice_over bytes first second start end a b = same_lists _ _ (search (rules, places)) (λ k d h. grind (arith, places))

-- no edit yet
pub no_edit : {C : _} {T : _} {c : _} {t : _} {p : PathMut C T c t} → (p.range.start ≤ p.range.end) × (p.range.end ≤ length (edited_bytes p)) → BecomesPath p p (path_mut_value p)
no_edit {p = p} inside =
    let spelled = (read_path-reads (path_mut_text p)).spelled in
    grind (arith, spelled, splice_same (edited_bytes p) p.range.start p.range.end inside.0 inside.1, slice_len (edited_bytes p) p.range.start p.range.end inside.0 inside.1)

-- a refused edit after another
pub refused_then : {C : _} {T : _} {c : _} {t : _} {p q r : PathMut C T c t} {value : PathValue} → BecomesPath p q value → IsUnchanged q r → BecomesPath p r value
refused_then first same = grind arith

module _ {C : _} {T : _} {c : _} {t : _} {p q r : PathMut C T c t} (inside : (p.range.start ≤ p.range.end) × (p.range.end ≤ length (edited_bytes p))) where
  -- an edit after another
  edit_then : {value next : PathValue} → BecomesPath p q value → BecomesPath q r next → BecomesPath p r next
  edit_then first second = grind (arith, common_steps, splice_over)

  -- a step after another
  next_edit : {value : PathValue} (next : PathContext → PathValue → PathValue) → BecomesPath p q value → BecomesPath q r (next (path_mut_context q) (path_mut_value q)) → BecomesPath p r (next (path_mut_context p) value)
  next_edit next first second = subst (BecomesPath p r) (λ i. next (first.context i) (first.read i)) (edit_then first second)

  -- one more segment followed
  pub followed_edit : {X : Type 0} (view : X → Text) (items : List X) (x : X) → BecomesPath p q (fold (followed (path_mut_context p)) (path_mut_value p) (map view items))
      → BecomesPath q r (followed (path_mut_context q) (path_mut_value q) (view x)) → BecomesPath p r (fold (followed (path_mut_context p)) (path_mut_value p) (map view (items ++ x ∷ [])))
  followed_edit view items x first second = rw (map-append, fold-append) (next_edit (λ context path. followed context path (view x)) first second)

  -- one more segment pushed as it is
  pub lazy_edit : {X : Type 0} (view : X → Text) (items : List X) (x : X) → BecomesPath p q (lazy_appended (path_mut_context p) (map view items) (path_mut_value p))
      → BecomesPath q r (lazy_pushed (path_mut_context q) (view x) (path_mut_value q)) → BecomesPath p r (lazy_appended (path_mut_context p) (map view (items ++ x ∷ [])) (path_mut_value p))
  unfolding lazy_appended
  lazy_edit view items x first second = rw (map-append, fold-append) (next_edit (λ context. lazy_pushed context (view x)) first second)

  -- the path closed, where the list ends in dots
  pub closed_edit : (items : List Text) → ends_in_dots items ≡ true → BecomesPath p q (fold (followed (path_mut_context p)) (path_mut_value p) items)
      → BecomesPath q r (closed_path (path_mut_context q) (path_mut_value q)) → BecomesPath p r (appended (path_mut_context p) items (path_mut_value p))
  unfolding appended
  closed_edit items dots first second = rw dots (next_edit closed_path first second)

pub open_edit : {C : _} {T : _} {c : _} {t : _} {p q : PathMut C T c t} (items : List Text) → ends_in_dots items ≡ false → BecomesPath p q (fold (followed (path_mut_context p)) (path_mut_value p) items)
    → BecomesPath p q (appended (path_mut_context p) items (path_mut_value p))
unfolding appended
open_edit items dots first = rw dots first

-- whether the segments end in dots after one more
pub dots_next : {X : Type 0} (view : X → Text) (items : List X) (x : X) → ends_in_dots (map view (items ++ x ∷ [])) ≡ not (is_name (view x))
dots_next view items x = grind (arith, common_steps, map-append, ends-last)

-- what an iterator of a list gives
pub items_drained : {S A : Type 0} (view : A → Text) (rest : S → List Text) (s : S) (items : List A) → Drains (YieldsFirstBy view rest) s items → map view items ≡ rest s
items_drained view rest s items (after, (left, given, none)) = items_from_drains items (left, given, λ _. (after, none)) (YieldsList-from_first view rest (rest s) refl)

-- the value of a copy after an edit
pub copy_edit : {C : _} {T : _} {c : _} {t : _} {p q : PathMut C T c t} {bytes : Text} {context : PathContext} {n : ℕ} (step : PathContext → PathValue → PathValue) → IsEditorOf p bytes context 0 n → n ≡ length bytes
    → BecomesPath p q (step (path_mut_context p) (path_mut_value p)) → path_mut_value q ≡ step context (read_path bytes)
copy_edit {bytes = bytes} {n = n} step of len e = grind (arith, slice_all bytes 0 n)

-- what is joined, where it is relative
pub joined_relative : (context : PathContext) (new p : PathValue) → new.absolute ≡ false → joined context new p ≡ appended context new.segments p
unfolding joined
joined_relative context new p h = grind arith

-- one more segment of a list pushed
pub from_segments_next : {X : Type 0} (view : X → Text) (absolute : Bool) (items : List X) (x : X) → from_segments absolute (map view (items ++ x ∷ [])) ≡ pushed alone (view x) (from_segments absolute (map view items))
unfolding from_segments
from_segments_next view absolute items x = grind (arith, common_steps, map-append, fold-append)
