-- The paths of a target and a base, compared.
use Rattle.std.proofs.Common.{◌≡◌, Bool, Decides, false, true, List, [], ◌∷◌, ap, arith, refl, subst, Option, codes, is_none, map}
use Rattle.std.specs.{Borrow.{Bor}, Option.{option_copied}}
use Rattle.percent_encoding.specs.Percent.{percent_decode}
use Rattle.iref_grammar.specs.{Rules.{Text}, PathValue.{PathValue, read_path}, Texts.{is_empty}}
use Rattle.iref_grammar.specs.ComponentTexts.{ComponentTexts, read_components}
use Rattle.iref_grammar.specs.{NormalList.{normal_segments, staying_names}, PathKey.{path_key}, Relative.{have_same_path}}
use Rattle.iref_grammar.proofs.PathKeyLemmas.{tie_from_decides}

pub none-copied : (o : Option (Bor Text)) → is_none o ≡ is_none (option_copied o)
none-copied o = grind arith

pub same_path : (t b : ComponentTexts) (equal : Bool) → Decides equal (path_key (read_path t.path) ≡ path_key (read_path b.path)) → equal ≡ have_same_path (read_components t) (read_components b)
same_path t b equal decides = tie_from_decides (path_key (read_path t.path)) (path_key (read_path b.path)) equal decides

root_key : path_key (read_path (codes "/")) ≡ record { absolute = true; segments = [] }
unfolding path_key read_path normal_segments staying_names
root_key = refl

-- the root has no normal segments, so an absolute path equals it exactly where it has none
pub empty_as_root : (p : PathValue) (equal : Bool) → Decides equal (path_key p ≡ path_key (read_path (codes "/"))) → p.absolute ≡ true → equal ≡ is_empty (normal_segments p)
unfolding path_key
empty_as_root p equal decides root = by equal (normal_segments p) (subst (λ k. Decides equal (path_key p ≡ k)) root_key decides)
  where
    by : (b : Bool) (list : List Text) → Decides b (◌≡◌ {A = PathValue} (record { absolute = p.absolute; segments = map percent_decode list }) (record { absolute = true; segments = [] })) → b ≡ is_empty list
    by b [] h = h.1 (λ i. record { absolute = root i; segments = [] })
    by true (s ∷ rest) h = (cc (ap (λ (k : PathValue). k.segments) (h.0 refl)))
    by false (s ∷ rest) h = refl
