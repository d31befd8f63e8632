-- The parts of what is left of a normal list.
use Rattle.std.proofs.Common.{◌≡◌, ℕ, ◌-◌, ◌≤◌, List, [], ◌∷◌, ◌++◌, ap, append_assoc, arith, length, length-append, Option, None, Some, sym, take, ◌∙◌}
use Rattle.std.proofs.lemmas.List.{append-nil, take-append-drop}
use Rattle.std.specs.{Borrow.{Bor}, Iterator.{YieldsFirstBy, YieldsLastBy}}
use Rattle.iref_path.specs.{Pieces.{text_at}, NormalItems.{normal_left}, StepsBetween.{last_ones}}
use Rattle.iref_path.specs.declared.normal_items.NormalItems.{NormalItems}
use Rattle.iref_grammar.specs.Rules.{Text}
use Rattle.iref_component.specs.{NormalLeft.{IsPart, left_of, parts_left}, declared.normal.left.Left.{Left}}

-- a part is put before the others
parts_left-push : (parts : List NormalItems) (part : NormalItems) → parts_left (parts ++ part ∷ []) ≡ normal_left part ++ parts_left parts
parts_left-push [] part = sym (append-nil (normal_left part))
parts_left-push (p ∷ parts) part = ap (λ z. z ++ normal_left p) (parts_left-push parts part) ∙ append_assoc (normal_left part) (parts_left parts) (normal_left p)

-- what is cut off a part stands before the others
pub cut_off : (list front rest : List Text) (part : NormalItems) (parts : List NormalItems) (n : ℕ) → front ≡ take (length list - n) list → normal_left part ≡ last_ones n list
    → front ++ (parts_left (parts ++ part ∷ []) ++ rest) ≡ list ++ (parts_left parts ++ rest)
cut_off list front rest part parts n e f =
    let whole : front ++ normal_left part ≡ list = ap (λ z. z ++ normal_left part) e ∙ ap (λ z. take (length list - n) list ++ z) f ∙ take-append-drop (length list - n) list in
    rw (parts_left-push, append_assoc (normal_left part), ← append_assoc front, whole)

-- the item of the first part, which has only one, is the first of all
first_item : (none one left behind : List Text) (s : Text) (all parts : List NormalItems) (part : NormalItems) → one ≡ none ++ s ∷ [] → length one ≤ 1 → all ≡ parts ++ part ∷ []
    → one ++ left ≡ normal_left part ++ (parts_left parts ++ behind) → parts_left all ++ behind ≡ s ∷ left
first_item [] one left behind s all parts part g few e f =
    ap (λ z. parts_left z ++ behind) e ∙ ap (λ z. z ++ behind) (parts_left-push parts part) ∙ append_assoc (normal_left part) (parts_left parts) behind
    ∙ sym f ∙ ap (λ z. z ++ left) g
first_item (x ∷ none) one left behind s all parts part g few e f = absurd (omega (arith, ap length g, length-append none (s ∷ [])))

-- so it is given
pub first_given : (popped : List NormalItems) (part first none : NormalItems) (before after : Left) (item : Option (Bor Text)) → before.parts.items ≡ popped ++ part ∷ []
    → normal_left first ++ left_of after ≡ normal_left part ++ (parts_left popped ++ normal_left before.rest) → IsPart first → length (normal_left first) ≤ 1
    → YieldsLastBy text_at normal_left first item none → YieldsFirstBy text_at left_of before item after
unfolding left_of
first_given popped part first none before after None e f some few given = absurd (omega (arith, some.some, ap length given.0))
first_given popped part first none before after (Some item) e f some few given =
    first_item (normal_left none) (normal_left first) (left_of after) (normal_left before.rest) (text_at item) before.parts.items popped part given few e f
