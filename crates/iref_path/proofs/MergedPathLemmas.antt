-- The names that stay of two lists read as one, from the back.
use Rattle.std.proofs.Common.{append_assoc, ◌≡◌, ℕ, ◌+◌, ◌*◌, ◌≤◌, Bool, cond, List, [], ◌∷◌, ◌++◌, length, Option, Some, None, arith, ◌==◌, codes}
use Rattle.std.proofs.lemmas.List.{append-nil}
use Rattle.std.specs.{Borrow.{Bor}, Option.{option_or}}
use Rattle.iref_grammar.specs.{Grammar.{slash}, Rules.{Text}, Texts.{all_but_last}, PathValue.{read_path}}
use Rattle.iref_grammar.specs.{NormalList.{ends_in_dots}, NormalReading.{open_before, staying_before}}
use Rattle.iref_grammar.proofs.{PieceLemmas.{some_piece}, SettledLemmas.{ends-append}}
use Rattle.iref_grammar.proofs.StayingLemmas.{open_before-append, staying_before-append}
use Rattle.iref_path.specs.{NormalItems.{first_or}, Pieces.{pieces_if_some}, Spelling.{each_closed}}
use Rattle.iref_path.proofs.SpellLemmas.{kept_size, last_size, read_size, size-append, size-cons, size-parents, list_size}
use Rattle.iref_path.proofs.NormalItemsLemmas.{parts_left, last-parts, length-last, length-parts, all_last, unread-sound}
use Rattle.iref_path.proofs.RewritingLemmas.{root_is}

-- this number of `..` is open before the list behind, of which this is left
module _ (front back left : List Text) (n m : ℕ) (open_is : open_before left m ≡ open_before back n) where
  pub opened_before : open_before (front ++ left) m ≡ open_before (front ++ back) n
  opened_before = grind (arith, open_before-append)

  -- a name of the list behind stays
  pub back_gives : (s : Text) → staying_before back n ≡ staying_before left m ++ s ∷ [] → staying_before (front ++ back) n ≡ staying_before (front ++ left) m ++ s ∷ []
  back_gives s e = grind (arith, append_assoc, append-nil, staying_before-append)

  -- none is left of the list behind
  module _ (done : left ≡ []) where
    pub front_opened : open_before front m ≡ open_before (front ++ back) n
    front_opened = grind (arith, open_before-append)

    pub front_remains : staying_before back n ≡ [] → staying_before (front ++ back) n ≡ staying_before front m
    front_remains e = grind (arith, append_assoc, append-nil, staying_before-append)

pub ends-both : (front back : Option (Bor Text)) → ends_in_dots (pieces_if_some (option_or back front)) ≡ ends_in_dots (pieces_if_some front ++ pieces_if_some back)
ends-both front None = grind (arith, append_assoc, append-nil)
ends-both front (Some text) = grind (arith, append_assoc, append-nil, some_piece slash text.now, ends-append)

-- how much is written of both at most
pub after_size : (base path : Text) (front segments kept : List Text) (absolute base_absolute : Bool) → read_path base ≡ record { absolute = base_absolute; segments = front }
    → read_path path ≡ record { absolute = absolute; segments = segments } → kept ≡ all_but_last front
    → length (each_closed (kept ++ segments)) ≤ length base + length path + 2
after_size base path front segments kept absolute base_absolute b p k = grind (arith, size-append, last_size front, read_size base _ b, read_size path _ p)

-- ---- what one reading finds

-- one item more
pub size_last : (list front : List Text) (s : Text) → list ≡ front ++ s ∷ [] → length (each_closed list) ≡ length (each_closed front) + (length s + 1)
size_last list front s e = grind (arith, size-append front (s ∷ []), size-cons s [])

pub size-parts : (parents : ℕ) (names : List Text) (closes : Bool) → length (each_closed (parts_left parents names closes)) ≡ 3 * parents + length (each_closed names) + cond closes 1 0
size-parts parents names closes = grind (arith, size-append, size-parents)

-- what is added up takes no more than the segments
pub size_most : (list : List Text) (absolute closes : Bool) (opened parents size closed : ℕ) → opened ≡ open_before list 0 → parents ≡ cond absolute 0 opened
    → size ≡ length (each_closed (staying_before list 0)) → closed ≡ cond closes 1 0 → 3 * parents + size + closed ≤ length (each_closed list) + 1
size_most list absolute closes opened parents size closed e f g h = grind (arith, kept_size list)

pub first-parts : (parents : ℕ) (names : List Text) (closes : Bool) → first_or [] (parts_left parents names closes) ≡ cond (parents == 0) (first_or [] names) (codes "..")
first-parts parents names closes = grind arith

pub ruleset last_parts = (last-parts, length-last, length-parts, root_is)

pub ruleset from_both = (back_gives, front_opened, front_remains, opened_before)

pub ruleset surveyed = (first-parts, size-parts, size_most, all_last, unread-sound, root_is, kept_size, list_size)
