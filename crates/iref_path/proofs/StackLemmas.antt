-- A normal list that is put on a stack from its end.
use Rattle.std.proofs.Common.{◌≡◌, ℕ, ◌+◌, ◌<◌, Bool, List, [], ◌∷◌, ◌++◌, length, map, reverse, drop, get_or, ◌∙◌, append_assoc, replicate, codes}
use Rattle.std.proofs.lemmas.List.{at_drop_more, reverse-append}
use Rattle.std.specs.{Borrow.{Bor}, List.{join_with_byte}}
use Rattle.iref_grammar.specs.{Grammar.{slash}, Rules.{Text}}
use Rattle.iref_grammar.specs.NormalReading.{closing}
use Rattle.iref_path.specs.{Spelling.{each_closed}, Pieces.{text_at}, Stacks.{Completes, in_order}}
use Rattle.iref_path.specs.declared.normal_items.stack.Stack.{Stack}
use Rattle.iref_path.proofs.{NormalItemsLemmas.{parts_left}, SpellLemmas.{closed_last, joined_last}}

-- the three parts, one after the other
pub parts_put : (none closed named all : Stack) (parents : ℕ) (names : List Text) (closes : Bool)
    → ((whole : List Text) → Completes none whole whole)
    → ((front whole : List Text) → Completes none (front ++ closing closes) whole → Completes closed front whole)
    → ((front whole : List Text) → Completes closed (front ++ names) whole → Completes named front whole)
    → ((whole : List Text) → Completes named (replicate parents (codes "..")) whole → Completes all [] whole)
    → Completes all [] (parts_left parents names closes)
parts_put none closed named all parents names closes empty h k l =
    let whole = parts_left parents names closes in
    l whole (k _ whole (h _ whole (rw append_assoc (empty whole))))

-- ---- items in order

pub in_order-cons : (item : Bor Text) (items : List (Bor Text)) → in_order (item ∷ items) ≡ in_order items ++ text_at item ∷ []
in_order-cons item items = reverse-append (text_at item ∷ []) (map text_at items)

-- the first on the stack comes last
pub stacked_last : (items : List (Bor Text)) (i : ℕ) (d : Bor Text) → i < length items
    → each_closed (in_order (drop i items)) ≡ each_closed (in_order (drop (i + 1) items)) ++ (text_at (get_or items i d) ++ slash ∷ [])
stacked_last items i d h =
    let rest = drop (i + 1) items in
    at_drop_more (λ list. each_closed (in_order list)) items i d h ∙ closed_last _ (in_order rest) (text_at (get_or items i d)) (in_order-cons (get_or items i d) rest)

pub stacked_joined : (item : Bor Text) (items : List (Bor Text)) → join_with_byte slash (in_order (item ∷ items)) ≡ each_closed (in_order items) ++ text_at item
stacked_joined item items = joined_last _ (in_order items) (text_at item) (in_order-cons item items)

pub ruleset stacked_lasts = (stacked_last, stacked_joined)
