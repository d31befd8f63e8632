-- Keys tie exactly where they are the same, and tests of parts are true exactly where the keys of the parts are.
use Rattle.std.proofs.Common.{arith, ◌≡◌, ◌↔◌, Bool, true, ◌&&◌, refl, sym, ap, ◌∙◌, Option, Some, None, is_eq, option_map}
use Rattle.std.proofs.lemmas.Option.{same_Some}
use Rattle.std.specs.{Option.{option_eq}, Hash.{HashWrites, option}}
use Rattle.iref_grammar.specs.{Rules.{Text}, Keys.{text_order}, Authority.{AuthorityValue}, PathValue.{PathValue}}
use Rattle.iref_grammar.specs.Reference.{ReferenceValue}
use Rattle.iref_grammar.proofs.TextLemmas.{first_of_both, second_of_both}
use Rattle.iref_grammar.specs.{AuthorityKey.{authority_key_cmp}, PathKey.{path_key_cmp}, Key.{key_cmp}}
use Rattle.iref_grammar.proofs.KeyOrderLemmas.{texts_total, texts_separate, authority_keys_total, authority_keys_separate, path_keys_total, path_keys_separate}
use Rattle.iref_grammar.proofs.KeyOrderLemmas.{keys_total, keys_separate, tied_exactly}

pub texts_tie : (a b : Text) → (is_eq (text_order a b) ≡ true) ↔ (a ≡ b)
texts_tie = tied_exactly texts_total texts_separate

pub authorities_tie : (a b : AuthorityValue) → (is_eq (authority_key_cmp a b) ≡ true) ↔ (a ≡ b)
authorities_tie = tied_exactly authority_keys_total authority_keys_separate

pub paths_tie : (a b : PathValue) → (is_eq (path_key_cmp a b) ≡ true) ↔ (a ≡ b)
paths_tie = tied_exactly path_keys_total path_keys_separate

pub references_tie : (a b : ReferenceValue) → (is_eq (key_cmp a b) ≡ true) ↔ (a ≡ b)
references_tie = tied_exactly keys_total keys_separate

-- ---- tests of parts

-- of what may be absent
pub options_tie_by : {A K : Type 0} (eq : A → A → Bool) (key : A → K) → ((x y : A) → (eq x y ≡ true) ↔ (key x ≡ key y))
    → (a b : Option A) → (option_eq eq a b ≡ true) ↔ (option_map key a ≡ option_map key b)
options_tie_by eq key h a b = grind (arith, same_Some)

-- of two tests
pub both_tie_by : (p q : Bool) {P Q : Type 0} → (p ≡ true) ↔ P → (q ≡ true) ↔ Q → ((p && q) ≡ true) ↔ (P × Q)
both_tie_by p q hp hq = (λ e. (hp.0 (first_of_both p q e), hq.0 (second_of_both p q e)), λ (x, y). ap (λ b. b && q) (hp.1 x) ∙ hq.1 y)

-- a key by two steps
pub option_map_twice : {A B K : Type 0} (f : A → B) (g : B → K) (o : Option A) → option_map g (option_map f o) ≡ option_map (λ v. g (f v)) o
option_map_twice f g None = refl
option_map_twice f g (Some v) = refl

pub options_tie_through : {A B K : Type 0} (eq : A → A → Bool) (f : A → B) (g : B → K) → ((x y : A) → (eq x y ≡ true) ↔ (g (f x) ≡ g (f y)))
    → (a b : Option A) → (option_eq eq a b ≡ true) ↔ (option_map g (option_map f a) ≡ option_map g (option_map f b))
options_tie_through eq f g h a b = grind arith

-- the bytes that are hashed of what may be absent
pub feeds_by : {A K : Type 0} (fed : K → HashWrites) (key : A → K) (o : Option A) → option (λ v. fed (key v)) o ≡ option fed (option_map key o)
feeds_by fed key None = refl
feeds_by fed key (Some v) = refl

pub feeds_through : {A B K : Type 0} (fed : K → HashWrites) (f : A → B) (g : B → K) (o : Option A) → option (λ v. fed (g (f v))) o ≡ option fed (option_map g (option_map f o))
feeds_through fed f g o = feeds_by fed (λ v. g (f v)) o ∙ ap (option fed) (sym (option_map_twice f g o))
