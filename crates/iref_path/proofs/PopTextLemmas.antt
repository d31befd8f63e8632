-- The texts that a pop leaves.
use Rattle.std.proofs.Common.{append_assoc, ◌≡◌, ℕ, Bool, true, false, cond, List, [], ◌∷◌, ◌++◌, length, take, refl, sym, arith, ◌+◌, true≢false, ◌==◌, codes, Option, Some, None}
use Rattle.std.proofs.{lemmas.List.{append-nil}, lemmas.Str.{IsCharBoundary-end}}
use mir.Val.{bool_byte}
use Rattle.std.specs.Borrow.{Bor}
use Rattle.iref_grammar.specs.{declared.context.PathContext.{PathContext}, Rules.{Text}, Grammar.{slash}}
use Rattle.iref_grammar.specs.Texts.{is_empty, pieces_at}
use Rattle.iref_grammar.specs.PathValue.{PathValue, read_path, spell_path, shows_its_list}
use Rattle.iref_grammar.proofs.{TextLemmas.{join-pieces_at}, PathLemmas.{read_path-reads}}
use Rattle.iref_grammar.specs.{Guard.{guarded, guarded_list}, NormalList.{is_dot, is_dot_dot}}
use Rattle.iref_grammar.specs.PathSteps.{lazy_pushed, ends_in_parent, popped, closed_path, followed, pushed}
use Rattle.iref_grammar.proofs.{DirectoryLemmas.{all_but_last-snoc}, FitsLemmas.{is_empty-snoc}, PieceLemmas.{some_piece}}
use Rattle.iref_path.specs.{Pieces.{pieces_if_some}, StepTexts.{closed_by}}
use Rattle.iref_path.proofs.StepTextLemmas.{IsCut, cut_at_slash, join-snoc, root_text, put_to_end, same_text, to_end}
use Rattle.iref_path.proofs.StepValueLemmas.{steps_as, steps_by, followed-step}

abbrev path_with : Bool → List Text → PathValue
path_with absolute segments = record { absolute = absolute; segments = segments }

-- ---- the value

ends-snoc : (front : List Text) (s : Text) → ends_in_parent (front ++ s ∷ []) ≡ is_dot_dot s
ends-snoc [] s = refl
ends-snoc (t ∷ front) s = grind (arith, is_empty-snoc, ends-snoc front s)

-- no segment
pub popped_root : (context : PathContext) (p : PathValue) → p ≡ path_with true [] → popped context p ≡ p
unfolding popped
popped_root context p e = grind arith

pub popped_nothing : (context : PathContext) (p : PathValue) → p ≡ path_with false [] → popped context p ≡ lazy_pushed context (codes "..") p
unfolding popped
popped_nothing context p e = grind arith

-- `..` at the end
pub popped_parent : (context : PathContext) (p : PathValue) (absolute : Bool) (front : List Text) (last : Text) → p ≡ path_with absolute (front ++ last ∷ []) → is_dot_dot last ≡ true
    → popped context p ≡ lazy_pushed context (codes "..") p
unfolding popped
popped_parent context p absolute front last e h = grind (arith, ends-snoc)

-- another segment at the end
pub popped_last : (context : PathContext) (p : PathValue) (absolute : Bool) (front : List Text) (last : Text) → p ≡ path_with absolute (front ++ last ∷ []) → is_dot_dot last ≡ false
    → popped context p ≡ guarded_list (path_with absolute front)
unfolding popped
popped_last context p absolute front last e h = grind (arith, ends-snoc, is_empty-snoc, all_but_last-snoc)

-- ---- what a path is read as, by its pieces

pub read_none : (path : Text) (absolute flag : Bool) (segments : Option (Bor Text)) → read_path path ≡ path_with absolute (pieces_if_some segments) → segments ≡ None → absolute ≡ flag → read_path path ≡ path_with flag []
read_none path absolute flag segments e h k = cc

pub read_last : (path : Text) (absolute : Bool) (segments : Option (Bor Text)) (text : Bor Text) (front : Option (Bor Text)) (last : Text) → read_path path ≡ path_with absolute (pieces_if_some segments) → segments ≡ Some text
    → pieces_at slash text.now ≡ pieces_if_some front ++ last ∷ [] → read_path path ≡ path_with absolute (pieces_if_some front ++ last ∷ [])
read_last path absolute segments text front last e h k = cc

pub read_by : (path : Text) (absolute : Bool) (front some : Option (Bor Text)) (last : Text) → read_path path ≡ path_with absolute (pieces_if_some front ++ last ∷ []) → front ≡ some
    → read_path path ≡ path_with absolute (pieces_if_some some ++ last ∷ [])
read_by path absolute front some last e h = cc

-- ---- whether segments are left

pub push_closed : (context : PathContext) (s close : Text) (p q : PathValue) → q ≡ lazy_pushed context s p → spell_path (lazy_pushed context s p) ++ close ≡ closed_by close q
unfolding lazy_pushed guarded
push_closed context s close p q e = grind arith

-- ---- the text

spelled-snoc : (absolute : Bool) (front last : Text) → spell_path (path_with absolute (pieces_at slash front ++ last ∷ [])) ≡ (root_text absolute ++ front) ++ slash ∷ last
unfolding spell_path
spelled-snoc absolute front last = grind (arith, some_piece slash front, join-snoc, join-pieces_at slash front)

-- the segments before the last one, guarded
guarded_front : (absolute : Bool) (front last : Text) → shows_its_list (path_with absolute (pieces_at slash front ++ last ∷ [])) ≡ true
    → (root_text absolute ++ front) ++ cond (length front == 0) (codes "./") [] ≡ spell_path (guarded_list (path_with absolute (pieces_at slash front)))
unfolding spell_path guarded_list read_path
guarded_front true [] last h = refl
guarded_front false [] last h = absurd (true≢false (sym h))
guarded_front absolute (c ∷ cs) last h =
    grind (arith, append_assoc, append-nil, join-pieces_at slash (c ∷ cs), read_path-reads (slash ∷ c ∷ cs), some_piece slash (c ∷ cs))

-- segments are left
module _ (context : PathContext) (path front last : Text) (absolute : Bool) (e : read_path path ≡ path_with absolute (pieces_at slash front ++ last ∷ [])) where
  pub front_cut : (n : ℕ) → n ≡ bool_byte absolute + length front → IsCut path (root_text absolute ++ front) n
  front_cut n size = grind (arith, cut_at_slash path (root_text absolute ++ front) last n, read_path-reads path, spelled-snoc absolute front last)

  module _ (h : is_dot_dot last ≡ false) where
    front_some : is_empty (popped context (read_path path)).segments ≡ false
    unfolding guarded_list
    front_some = grind (arith, some_piece slash front, popped_last context (read_path path) absolute (pieces_at slash front) last)

    pub front_text : (n : ℕ) (guard close : Text) → n ≡ bool_byte absolute + length front → guard ≡ cond (length front == 0) (codes "./") [] → take n path ++ (guard ++ [] ++ close) ≡ closed_by close (popped context (read_path path))
    front_text n guard close size g =
        grind (
          arith,
          append_assoc,
          append-nil,
          front_cut,
          guarded_front absolute front last,
          read_path-reads path,
          front_some,
          popped_last context (read_path path) absolute (pieces_at slash front) last,
        )

pub none_left : (context : PathContext) (p : PathValue) (last : Text) (absolute : Bool) → p ≡ path_with absolute (last ∷ []) → is_dot_dot last ≡ false → popped context p ≡ path_with absolute []
unfolding guarded_list
none_left context p last absolute e h = grind (arith, popped_last context p absolute [] last)

-- ---- one segment, by what it is

module _ (context : PathContext) (s : Text) (p : PathValue) where
  pub followed_dot : is_dot s ≡ true → followed context p s ≡ p
  followed_dot h = grind arith

  pub followed_parent : is_dot s ≡ false → is_dot_dot s ≡ true → followed context p s ≡ popped context p
  followed_parent h k = grind arith

  pub followed_name : is_dot s ≡ false → is_dot_dot s ≡ false → followed context p s ≡ lazy_pushed context s p
  followed_name h k = grind arith

  pub pushed_dot : is_dot s ≡ true → pushed context s p ≡ closed_path context p
  unfolding pushed
  pushed_dot h = grind arith

  pub pushed_parent : is_dot s ≡ false → is_dot_dot s ≡ true → pushed context s p ≡ closed_path context (popped context p)
  unfolding pushed
  pushed_parent h k = grind arith

  pub pushed_name : is_dot s ≡ false → is_dot_dot s ≡ false → pushed context s p ≡ lazy_pushed context s p
  unfolding pushed
  pushed_name h k = grind arith

pub ruleset follows = (followed_parent, followed_name, steps_as, IsCharBoundary-end, put_to_end, same_text, to_end, followed_dot, steps_by, followed-step)
