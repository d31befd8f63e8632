-- What is left of a path after a prefix.
use Rattle.std.specs.Prelude.{false}
use Rattle.iref_grammar.specs.{Contexts.{alone}, PathValue.{PathValue}}
use Rattle.iref_grammar.specs.Guard.{guarded}
use Rattle.iref_path.specs.{NormalItems.{normal_left}, declared.normal_items.NormalItems.{NormalItems}}

-- the relative path of the items that are left, which stands alone
abbrev pub items_path : NormalItems → PathValue
items_path items = guarded alone (record { absolute = false; segments = normal_left items })
