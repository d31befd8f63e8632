-- Fields that are read one after the other.
use Rattle.std.proofs.Common.{arith, ◌≡◌, List, [], ◌∷◌, ◌++◌, Option, Some, option_map, map}
use Rattle.std.proofs.lemmas.Grind.{common_steps}
use Rattle.iref.specs.{Rules.{Text}, IpAddresses.{all_some}}

module _ {A : Type 0} (read : Text → Option A) where
  -- one more field is read, or cannot be
  pub next_read : (all left rest : List Text) (field : Text) (values : List A) (value : A) → left ≡ field ∷ rest → read field ≡ Some value → all_some (map read all) ≡ option_map (λ more. values ++ more) (all_some (map read left))
      → all_some (map read all) ≡ option_map (λ more. (values ++ value ∷ []) ++ more) (all_some (map read rest))
  next_read all left rest field values value l e r = grind (arith, common_steps)
