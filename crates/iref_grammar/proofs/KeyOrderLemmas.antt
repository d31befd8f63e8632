-- Keys of texts, authorities, paths and references: each order is total, and keys that tie are the same.
use Rattle.std.proofs.Common.{arith, ◌≡◌, ◌↔◌, true, [], ◌∷◌, refl, sym, ◌∙◌, ap, Ordering, is_eq, true≢false}
use Rattle.std.proofs.{lemmas.Grind.{common_steps}, lemmas.Map.Text.{is_eq-slice_cmp}}
use Rattle.std.specs.{Option.{option_cmp}, Ordering.{ordering_then}}
use Rattle.std.specs.Cmp.{IsTotalOrder, on_total, then_total, tied_itself}
use Rattle.std.specs.Cmp.Lexicographic.{slice_cmp, bytes_decides, nat_list_cmp_total, options_total}
use Rattle.iref_grammar.specs.{Reference.{ReferenceValue}, Keys.{text_order}}
use Rattle.iref_grammar.specs.{AuthorityKey.{authority_key_cmp}, PathKey.{path_key_cmp}, Key.{key_cmp}}
pub use Rattle.iref_grammar.specs.AuthorityKey.{authority_keys_total}
pub use Rattle.iref_grammar.specs.PathKey.{path_keys_total}

-- ---- the orders are total, as those of authorities and paths

pub texts_total : IsTotalOrder text_order
texts_total = nat_list_cmp_total

pub keys_total : IsTotalOrder key_cmp
unfolding key_cmp
keys_total =
    then_total (on_total (λ (r : ReferenceValue). r.scheme) (options_total texts_total))
    (then_total (on_total (λ (r : ReferenceValue). r.authority) (options_total authority_keys_total))
    (then_total (on_total (λ (r : ReferenceValue). r.path) path_keys_total)
    (then_total (on_total (λ (r : ReferenceValue). r.query) (options_total texts_total))
    (on_total (λ (r : ReferenceValue). r.fragment) (options_total texts_total)))))

-- ---- what ties is the same

abbrev pub Separates : {A : Type 0} → (A → A → Ordering) → Type 0
Separates {A} cmp = (x y : A) → is_eq (cmp x y) ≡ true → x ≡ y

pub both_tie : (a b : Ordering) → is_eq (ordering_then a b) ≡ true → (is_eq a ≡ true) × (is_eq b ≡ true)
both_tie a b h = grind arith

pub options_separate : {A : Type 0} (cmp : A → A → Ordering) → Separates cmp → Separates (option_cmp cmp)
options_separate cmp separate x y h = grind arith

lists_separate : {A : Type 0} (cmp : A → A → Ordering) → Separates cmp → Separates (slice_cmp cmp)
lists_separate cmp separate [] [] h = refl
lists_separate cmp separate [] (y ∷ ys) h = absurd (true≢false (sym h))
lists_separate cmp separate (x ∷ xs) [] h = absurd (true≢false (sym h))
lists_separate cmp separate (x ∷ xs) (y ∷ ys) h = grind (arith, lists_separate cmp separate xs ys)

pub texts_separate : Separates text_order
texts_separate x y h = (bytes_decides x y).0 (sym (is_eq-slice_cmp x y) ∙ h)

pub authority_keys_separate : Separates authority_key_cmp
authority_keys_separate a b h =
    let host = texts_separate a.host b.host in
    grind (arith, common_steps, both_tie, options_separate text_order texts_separate)

pub path_keys_separate : Separates path_key_cmp
path_keys_separate p q h = grind (arith, common_steps, lists_separate)

pub keys_separate : Separates key_cmp
unfolding key_cmp
keys_separate r s h =
    let texts = options_separate text_order texts_separate in
    let authorities = options_separate authority_key_cmp authority_keys_separate in
    let path = path_keys_separate r.path s.path in
    grind (arith, common_steps, both_tie, texts, authorities)

-- in a total order whose ties are equal, to tie is to be the same
pub tied_exactly : {K : Type 0} {order : K → K → Ordering} → IsTotalOrder order → Separates order → (a b : K) → (is_eq (order a b) ≡ true) ↔ (a ≡ b)
tied_exactly {order = order} total separate a b = (separate a b, λ same. (λ i. is_eq (order a (sym same i))) ∙ ap is_eq (tied_itself total a))
