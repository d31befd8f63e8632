-- What follows the root and the guard in the text of a path.
use Rattle.std.specs.{Prelude.{◌≡◌, ℕ, ◌<◌, ◌^◌, ◌∷◌, ◌++◌, Option, Some, None, codes, length, replicate}, Borrow.{Bor}}
use Rattle.std.specs.List.{join_with_byte}
use Rattle.iref_grammar.specs.{Rules.{Text}, Grammar.{slash}}
use Rattle.iref_path.specs.{Spelling.{each_closed}, NormalItems.{IsSound, normal_left}}
use Rattle.iref_path.specs.declared.measured_body.Body.{Body}
use Rattle.iref_path.specs.declared.measured_body.Body.TheVariants.{Kept, Up, Items}

-- the text, and before it another one with a `/` after it, if there is one
abbrev pub after_front : Option (Bor Text) → Text → Text
after_front None back = back
after_front (Some front) back = front.now ++ slash ∷ back

-- a number of `..`, each with a `/` after it, and then the text
abbrev pub parents_then : ℕ → Text → Text
parents_then up text = each_closed (replicate up (codes "..")) ++ text

abbrev pub body_text : Body → Text
body_text (Kept front back) = after_front front back.now
body_text (Up up text) = parents_then up text.now
body_text (Items items size) = join_with_byte slash (normal_left items)

-- the size is that of the items
abbrev pub IsBody : Body → Type 0
IsBody (Kept front back) = length (after_front front back.now) < 2 ^ 64
IsBody (Up up text) = length (parents_then up text.now) < 2 ^ 64
IsBody (Items items size) = IsSound items × (size ≡ length (each_closed (normal_left items)))
