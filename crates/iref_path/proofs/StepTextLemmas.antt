-- The texts that the steps of a path leave.
use Rattle.std.proofs.Common.{◌≡◌, ℕ, Bool, true, false, cond, ◌||◌, List, [], ◌∷◌, ◌++◌, length, take, refl, sym, ap, subst, ◌∙◌, append_assoc, arith, length-append, IsUtf8, true≢false}
use Rattle.std.proofs.{lemmas.Grind.{common_steps}, lemmas.List.{append-nil, drop_all, take_all, take_at}}
use Rattle.std.proofs.Math.Seq.{get_or-append_seam}
use Rattle.std.proofs.lemmas.Str.{IsCharBoundary-end, IsCharBoundary-start, IsCharBoundary-before_ascii, IsCharBoundary-after_ascii}
use Rattle.std.proofs.lemmas.Bool.Decides.{nat_tests}
use mir.Val.{bool_byte}
use Rattle.std.specs.{List.{join_with_byte, splice}, Str.{IsCharBoundary}}
use Rattle.iref_grammar.specs.{declared.context.PathContext.{PathContext}, Rules.{Text}, Grammar.{slash}}
use Rattle.iref_grammar.specs.{Texts.{is_empty}, PathValue.{PathValue, read_path, spell_path}}
use Rattle.iref_grammar.proofs.PathLemmas.{read_path-reads}
use Rattle.iref_grammar.specs.{Guard.{guarded}, PathSteps.{lazy_pushed, closed_path}}
use Rattle.iref_splice.specs.Changes.{IsWithin}
use Rattle.iref_path.specs.{Spelling.{first_needs_guard, guard}, StepTexts.{closed_by}}

-- before a first segment that is pushed
abbrev pub pushed_guard : PathContext → Bool → Text → Text
pushed_guard context absolute s =
    let rooted = absolute || context.has_authority in
    guard rooted (first_needs_guard context rooted s)

-- the first segment
pub first_pushed : (context : PathContext) (p : PathValue) (s : Text) → is_empty p.segments ≡ true → pushed_guard context p.absolute s ++ s ≡ spell_path (lazy_pushed context s p)
unfolding guarded lazy_pushed spell_path
first_pushed context p s h = grind (arith, common_steps)

pub join-snoc : (t : Text) (ts : List Text) (s : Text) → join_with_byte slash (t ∷ ts) ++ (slash ∷ s) ≡ join_with_byte slash ((t ∷ ts) ++ s ∷ [])
join-snoc t [] s = refl
join-snoc t (u ∷ us) s = append_assoc t (slash ∷ join_with_byte slash (u ∷ us)) (slash ∷ s) ∙ ap (λ rest. t ++ slash ∷ rest) (join-snoc u us s)

-- a further segment
pub next_pushed : (context : PathContext) (p : PathValue) (s : Text) → is_empty p.segments ≡ false → spell_path p ++ (slash ∷ s) ≡ spell_path (lazy_pushed context s p)
unfolding lazy_pushed spell_path
next_pushed context p s h = grind (arith, common_steps, join-snoc)

pub closed_spelled : (context : PathContext) (p : PathValue) → closed_by (slash ∷ []) p ≡ spell_path (closed_path context p)
closed_spelled context p = grind (arith, common_steps, next_pushed)

pub unclosed_spelled : (p : PathValue) → closed_by [] p ≡ spell_path p
unclosed_spelled p = grind (arith, common_steps)

-- ---- a change of all that follows a position

pub to_end : (path : Text) (n : ℕ) → IsCharBoundary path n → IsWithin path (record { start = n; end = length path })
to_end path n b = record { start_le_end = b.0; start = b; end = IsCharBoundary-end path }

pub put_to_end : (path new : Text) (n : ℕ) → splice path n (length path) new ≡ take n path ++ new
put_to_end path new n = ap (λ rest. take n path ++ (new ++ rest)) (drop_all (length path) path (omega arith)) ∙ ap (λ t. take n path ++ t) (append-nil new)

-- ---- a beginning of a text

-- the text up to here
pub record IsCut (path kept : Text) (n : ℕ) : Type 0 where
  pub taken : take n path ≡ kept
  pub range : IsCharBoundary path n

pub cut_at_slash : (path front back : Text) (n : ℕ) → path ≡ front ++ slash ∷ back → length front ≡ n → IsCut path front n
cut_at_slash path front back n e size = record {
  taken = grind (arith, take_at);
  range = IsCharBoundary-before_ascii path n (grind (arith, length-append)) (grind (arith, get_or-append_seam front slash back 0));
}

-- its root, without its segments
abbrev pub root_text : Bool → Text
root_text absolute = cond absolute (slash ∷ []) []

at_root : (path : Text) (absolute : Bool) → IsUtf8 path → (read_path path).absolute ≡ absolute → IsCut path (root_text absolute) (bool_byte absolute)
unfolding read_path
at_root path false utf8 e = record { taken = refl; range = IsCharBoundary-start path utf8 }
at_root [] true utf8 e = absurd (true≢false (sym e))
at_root (c ∷ cs) true utf8 e = record {
  taken = grind (arith, nat_tests);
  range = IsCharBoundary-after_ascii (c ∷ cs) 0 utf8 (omega arith) (grind (arith, nat_tests));
}

pub root_spelled : (absolute : Bool) → root_text absolute ≡ spell_path (record { absolute = absolute; segments = [] })
unfolding spell_path
root_spelled absolute = grind arith

-- ---- the other short steps

module _ (path : Text) (utf8 : IsUtf8 path) (absolute : Bool) (segments : List Text) (e : read_path path ≡ record { absolute = absolute; segments = segments }) (n : ℕ) (size : n ≡ bool_byte absolute) where
  pub cut_at_root : IsCut path (root_text absolute) n
  cut_at_root = subst (IsCut path (root_text absolute)) (sym size) (at_root path absolute utf8 (ap (λ (p : PathValue). p.absolute) e))

  pub root_kept : (close : Text) (q : PathValue) → q ≡ record { absolute = absolute; segments = [] } → take n path ++ [] ≡ closed_by close q
  root_kept close q k = ap (λ t. t ++ []) (cut_at_root.taken ∙ root_spelled absolute) ∙ ap (closed_by close) (sym k)

-- nothing changes
pub same_text : (path : Text) → take (length path) path ++ [] ≡ spell_path (read_path path)
same_text path = append-nil (take (length path) path) ∙ take_all (length path) path (omega arith) ∙ sym (read_path-reads path).spelled

pub ruleset ends = (IsCharBoundary-end, IsCharBoundary-start, to_end)
