-- Keys of paths tie exactly if they are the same.
use Rattle.std.proofs.{Common.{◌≡◌, Bool, is_eq, Decides}, lemmas.Bool.Decides.{same_from_decides}}
use Rattle.iref_grammar.specs.PathValue.{PathValue}
use Rattle.iref_grammar.specs.PathKey.{path_key_cmp}
use Rattle.iref_grammar.proofs.KeyOrderLemmas.{path_keys_total, path_keys_separate, tied_exactly}

-- what decides the equality of keys says whether they tie
pub tie_from_decides : (p q : PathValue) (equal : Bool) → Decides equal (p ≡ q) → equal ≡ is_eq (path_key_cmp p q)
tie_from_decides p q equal h = same_from_decides equal (is_eq (path_key_cmp p q)) h (tied_exactly path_keys_total path_keys_separate p q)
