-- The items of a path, as they are put into a sort key.
use Rattle.std.specs.{Prelude.{◌≡◌, true, List}, List.{list_all}}
use Rattle.iref_grammar.specs.Rules.{Text}
use Rattle.iref_path.specs.{NormalItems.{decoded_left, IsSound}, Pieces.{pieces_if_some}}
use Rattle.iref_canonical.specs.{declared.sort_path.Items.{Items}, declared.sort_path.Items.TheVariants.{Kept, Normal}}
use Rattle.iref_canonical.specs.SortBytes.{is_kept}

abbrev pub AreKept : List Text → Type 0
AreKept items = list_all is_kept items ≡ true

-- the items that are written
abbrev pub items_of : Items → List Text
items_of (Kept text) = pieces_if_some text
items_of (Normal left) = decoded_left left

-- what writes them can rely on
abbrev pub AreItems : Items → Type 0
AreItems (Kept text) = AreKept (pieces_if_some text)
AreItems (Normal left) = IsSound left
