-- The items of a normal list that are kept on a stack, the last first.
use Rattle.std.specs.Prelude.{◌≡◌, ◌+◌, ◌<◌, ◌^◌, Bool, true, List, [], ◌++◌, Option, length, map, reverse}
use Rattle.std.specs.{Borrow.{Bor}, List.{join_with_byte}}
use Rattle.iref_grammar.specs.{Grammar.{slash}, Rules.{Text}, PathValue.{PathValue}}
use Rattle.iref_path.specs.{Pieces.{pieces_if_some, text_at}, NormalItems.{first_or}, Spelling.{each_closed}}
use Rattle.iref_path.specs.declared.normal_items.stack.Stack.{Stack}

-- these items, which were put the last first, in their order
abbrev pub in_order : List (Bor Text) → List Text
in_order items = reverse (map text_at items)

-- what stands first, and the items with `/` between
unfoldable pub stacked_text : Stack → Text
stacked_text t = t.guard.now ++ join_with_byte slash (in_order t.items.items)

-- the size is that of the items, and can be counted with what stands first
pub record IsStacked (t : Stack) : Type 0 where
  pub size : t.size ≡ length (each_closed (in_order t.items.items))
  pub countable : length t.guard.now + t.size < 2 ^ 64

-- The stack has what follows these items in a whole list: their size, the first of them, and the items themselves
-- where each found room.
pub record Completes (stack : Stack) (front whole : List Text) : Type 0 where
  pub size : length (each_closed front) + stack.size ≡ length (each_closed whole)
  pub first : first_or stack.first.now front ≡ first_or [] whole
  pub listed : stack.is_whole ≡ true → front ++ in_order stack.items.items ≡ whole

-- the path of these segments
abbrev pub path_of : Bool → Option (Bor Text) → PathValue
path_of absolute segments = record { absolute = absolute; segments = pieces_if_some segments }
