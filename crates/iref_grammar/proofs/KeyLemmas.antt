-- What the comparison of references, and of their components, decides.
use Rattle.std.proofs.Common.{Decides, ◌≡◌, true}
use Rattle.std.specs.{Ordering.{on}, Cmp.{IsTotalOrder, on_total}}
use Rattle.iref_grammar.specs.{Reference.{ReferenceValue}, Keys.{text_order}}
use Rattle.iref_grammar.specs.{AuthorityKey.{authority_key_cmp}, PathKey.{path_key}}
use Rattle.iref_grammar.specs.Key.{key, key_cmp, AreAlike, are_alike}
use Rattle.iref_grammar.specs.Relative.{have_same_scheme, have_same_authority, have_same_path}
use Rattle.iref_grammar.proofs.KeyOrderLemmas.{options_separate, texts_separate, authority_keys_separate, path_keys_separate, keys_separate, keys_total, tied_exactly}

pub same_scheme : (r s : ReferenceValue) → have_same_scheme r s ≡ true → (key r).scheme ≡ (key s).scheme
same_scheme r s h = options_separate text_order texts_separate (key r).scheme (key s).scheme h

pub same_authority : (r s : ReferenceValue) → have_same_authority r s ≡ true → (key r).authority ≡ (key s).authority
same_authority r s h = options_separate authority_key_cmp authority_keys_separate (key r).authority (key s).authority h

pub same_path : (r s : ReferenceValue) → have_same_path r s ≡ true → path_key r.path ≡ path_key s.path
same_path r s h = path_keys_separate (path_key r.path) (path_key s.path) h

pub references_total : IsTotalOrder (on key key_cmp)
references_total = on_total key keys_total

-- `==` is the sameness of keys
pub Decides-are_alike : (r s : ReferenceValue) → Decides (are_alike r s) (AreAlike r s)
Decides-are_alike r s = tied_exactly keys_total keys_separate (key r) (key s)

-- the laws of keys
pub ruleset laws = (references_total, Decides-are_alike)
