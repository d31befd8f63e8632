-- What is left of a normal list that is given from both ends.
use Rattle.std.specs.{Prelude.{◌<◌, ◌≤◌, List, [], ◌∷◌, ◌++◌, length}, List.{All}}
use Rattle.iref_grammar.specs.Rules.{Text}
use Rattle.iref_path.specs.NormalItems.{IsPlain, IsSound, normal_left}
use Rattle.iref_path.specs.declared.normal_items.NormalItems.{NormalItems}
use Rattle.iref_component.specs.declared.normal.left.Left.{Left}

-- the items of the parts of a list, of which the last stands first
abbrev pub parts_left : List NormalItems → List Text
parts_left [] = []
parts_left (part ∷ parts) = parts_left parts ++ normal_left part

-- those of the parts, and those behind them
unfoldable pub left_of : Left → List Text
left_of list = parts_left list.parts.items ++ normal_left list.rest

-- a part can be read from its back, and has items
pub record IsPart (part : NormalItems) : Type 0 where
  pub sound : IsSound part
  pub some : 0 < length (normal_left part)

-- so it is with each part, of which there are at most six, and what is behind them can be read from the front too
pub record IsLeft (list : Left) : Type 0 where
  pub room : length list.parts.items ≤ 6
  pub parts : All IsPart list.parts.items
  pub rest : IsPlain list.rest
