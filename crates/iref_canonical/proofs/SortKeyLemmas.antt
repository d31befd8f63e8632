-- Sort keys stand in the order of the keys, and are the same exactly where these are.
use Rattle.std.proofs.Common.{arith, ◌≡◌, ◌↔◌, ℕ, Bool, true, false, List, [], ◌∷◌, ◌++◌, refl, sym, ◌∙◌, ap, Option, Some, None, Ordering, Less, Equal, Greater, is_eq, append_assoc, if◌then◌else◌}
use Rattle.std.proofs.{lemmas.Grind.{common_steps}, lemmas.Bool.Decides.{nat_tests}, lemmas.List.{append-nil}}
use Rattle.std.specs.{Option.{option_cmp}, Ordering.{nat_cmp, bool_cmp, ordering_then, then_cmp, on}}
use Rattle.std.specs.{List.{flat_map}, Cmp.{tied_itself}, Cmp.Lexicographic.{slice_cmp}}
use Rattle.iref_grammar.specs.{Authority.{AuthorityValue}, Reference.{ReferenceValue}, Keys.{text_order}, Rules.{Text}}
use Rattle.iref_grammar.specs.{AuthorityKey.{authority_key_cmp}, PathKey.{path_key_cmp}, Key.{key_cmp}}
use Rattle.iref_grammar.proofs.KeyOrderLemmas.{keys_separate, texts_total}
use Rattle.iref_canonical.specs.SortKey.{sort_byte, sort_list, sort_option, sort_text, sort_item, sort_path, sort_authority, sort_key}

-- The bytes of values stand in the order of the values, whatever bytes follow: where two values tie, what follows decides.
pub record KeepsOrder {A : Type 0} (cmp : A → A → Ordering) (sort : A → Text) : Type 0 where
  pub decides : (a b : A) (r s : Text) → text_order (sort a ++ r) (sort b ++ s) ≡ ordering_then (cmp a b) (text_order r s)

-- the bytes of a value stand behind the byte 0
record StandsBehindEnd {A : Type 0} (sort : A → Text) : Type 0 where
  less : (a : A) (r s : Text) → text_order (0 ∷ r) (sort a ++ s) ≡ Less
  greater : (a : A) (r s : Text) → text_order (sort a ++ r) (0 ∷ s) ≡ Greater

-- ---- forms of sort keys

then_assoc : (a b c : Ordering) → ordering_then a (ordering_then b c) ≡ ordering_then (ordering_then a b) c
then_assoc Less b c = refl
then_assoc Equal b c = refl
then_assoc Greater b c = refl

-- of a field
pub on_keeps : {A B : Type 0} {R : A → A → Ordering} {f : A → Text} (part : B → A) → KeepsOrder R f → KeepsOrder (on part R) (λ b. f (part b))
on_keeps part k = record { decides = λ a b. k.decides (part a) (part b) }

-- of one and then another
pub both_keep : {A : Type 0} {R S : A → A → Ordering} {f g : A → Text} → KeepsOrder R f → KeepsOrder S g → KeepsOrder (then_cmp R S) (λ a. f a ++ g a)
both_keep {A} {R} {S} {f} {g} k l = record { decides = by }
  where
    by : (a b : A) (r s : Text) → text_order ((f a ++ g a) ++ r) ((f b ++ g b) ++ s) ≡ ordering_then (ordering_then (R a b) (S a b)) (text_order r s)
    by a b r s =
        (λ i. text_order (append_assoc (f a) (g a) r i) (append_assoc (f b) (g b) s i))
        ∙ k.decides a b (g a ++ r) (g b ++ s) ∙ ap (ordering_then (R a b)) (l.decides a b r s) ∙ then_assoc (R a b) (S a b) (text_order r s)

pub options_keep : {A : Type 0} {R : A → A → Ordering} {f : A → Text} → KeepsOrder R f → KeepsOrder (option_cmp R) (sort_option f)
options_keep {A} {R} {f} k = record { decides = by }
  where
    by : (a b : Option A) (r s : Text) → text_order (sort_option f a ++ r) (sort_option f b ++ s) ≡ ordering_then (option_cmp R a b) (text_order r s)
    by None None r s = refl
    by None (Some b) r s = refl
    by (Some a) None r s = refl
    by (Some a) (Some b) r s = k.decides a b r s

turned : {A : Type 0} (f : A → Text) (a : A) (xs : List A) (r : Text) → sort_list f (a ∷ xs) ++ r ≡ f a ++ (sort_list f xs ++ r)
turned f a xs r = ap (λ t. t ++ r) (append_assoc (f a) (flat_map f xs) (0 ∷ [])) ∙ append_assoc (f a) (sort_list f xs) r

lists_keep : {A : Type 0} {R : A → A → Ordering} {f : A → Text} → StandsBehindEnd f → KeepsOrder R f → KeepsOrder (slice_cmp R) (sort_list f)
lists_keep {A} {R} {f} behind k = record { decides = by }
  where
    by : (xs ys : List A) (r s : Text) → text_order (sort_list f xs ++ r) (sort_list f ys ++ s) ≡ ordering_then (slice_cmp R xs ys) (text_order r s)
    by [] [] r s = refl
    by [] (b ∷ ys) r s = (λ i. text_order (0 ∷ r) (turned f b ys s i)) ∙ behind.less b r (sort_list f ys ++ s)
    by (a ∷ xs) [] r s = (λ i. text_order (turned f a xs r i) (0 ∷ s)) ∙ behind.greater a (sort_list f xs ++ r) s
    by (a ∷ xs) (b ∷ ys) r s =
        (λ i. text_order (turned f a xs r i) (turned f b ys s i)) ∙ k.decides a b (sort_list f xs ++ r) (sort_list f ys ++ s)
        ∙ ap (ordering_then (R a b)) (by xs ys r s) ∙ then_assoc (R a b) (slice_cmp R xs ys) (text_order r s)

bytes_keep : KeepsOrder nat_cmp sort_byte
bytes_keep = record { decides = by }
  where
    by : (a b : ℕ) (r s : Text) → text_order (sort_byte a ++ r) (sort_byte b ++ s) ≡ ordering_then (nat_cmp a b) (text_order r s)
    by a b r s = grind (arith, common_steps, nat_tests)

bytes_behind : StandsBehindEnd sort_byte
bytes_behind = record { less = less; greater = greater }
  where
    less : (a : ℕ) (r s : Text) → text_order (0 ∷ r) (sort_byte a ++ s) ≡ Less
    less a r s = grind (arith, common_steps, nat_tests)

    greater : (a : ℕ) (r s : Text) → text_order (sort_byte a ++ r) (0 ∷ s) ≡ Greater
    greater a r s = grind (arith, common_steps, nat_tests)

pub texts_keep : KeepsOrder text_order sort_text
unfolding sort_text
texts_keep = lists_keep bytes_behind bytes_keep

-- ---- the parts of a key

-- orders in turn, grouped from the left and from the right
grouped : {A : Type 0} {R S : A → A → Ordering} {f : A → Text} → ((a b : A) → R a b ≡ S a b) → KeepsOrder R f → KeepsOrder S f
grouped same k = record { decides = λ a b r s. k.decides a b r s ∙ ap (λ o. ordering_then o (text_order r s)) (same a b) }

pub authorities_keep : KeepsOrder authority_key_cmp sort_authority
unfolding sort_authority
authorities_keep =
    grouped
    (λ (a b : AuthorityValue). sym (then_assoc (option_cmp text_order a.user_info b.user_info) (text_order a.host b.host) (option_cmp text_order a.port b.port)))
    (both_keep
    (both_keep (on_keeps (λ (a : AuthorityValue). a.user_info) (options_keep texts_keep)) (on_keeps (λ (a : AuthorityValue). a.host) texts_keep))
    (on_keeps (λ (a : AuthorityValue). a.port) (options_keep texts_keep)))

items_keep : KeepsOrder (slice_cmp text_order) (sort_list sort_item)
items_keep = lists_keep {f = sort_item} (record { less = λ a r s. refl; greater = λ a r s. refl }) (record { decides = texts_keep.decides })

paths_keep : KeepsOrder path_key_cmp sort_path
unfolding sort_path
paths_keep = record { decides = λ p q r s. by p.absolute q.absolute p.segments q.segments r s }
  where
    by : (a b : Bool) (xs ys : List Text) (r s : Text)
        → text_order ((if a then 1 else 0) ∷ sort_list sort_item xs ++ r) ((if b then 1 else 0) ∷ sort_list sort_item ys ++ s)
        ≡ ordering_then (ordering_then (bool_cmp a b) (slice_cmp text_order xs ys)) (text_order r s)
    by false false xs ys r s = items_keep.decides xs ys r s
    by false true xs ys r s = refl
    by true false xs ys r s = refl
    by true true xs ys r s = items_keep.decides xs ys r s

in_turn : (a b c d e : Ordering)
    → ordering_then (ordering_then (ordering_then (ordering_then a b) c) d) e ≡ ordering_then a (ordering_then b (ordering_then c (ordering_then d e)))
in_turn Less b c d e = refl
in_turn Equal Less c d e = refl
in_turn Equal Equal c d e = sym (then_assoc c d e)
in_turn Equal Greater c d e = refl
in_turn Greater b c d e = refl

keys_keep : KeepsOrder key_cmp sort_key
unfolding key_cmp sort_key
keys_keep =
    grouped
    (λ (k l : ReferenceValue). in_turn
    (option_cmp text_order k.scheme l.scheme)
    (option_cmp authority_key_cmp k.authority l.authority)
    (path_key_cmp k.path l.path)
    (option_cmp text_order k.query l.query)
    (option_cmp text_order k.fragment l.fragment))
    (both_keep
    (both_keep
    (both_keep
    (both_keep (on_keeps (λ (k : ReferenceValue). k.scheme) (options_keep texts_keep)) (on_keeps (λ (k : ReferenceValue). k.authority) (options_keep authorities_keep)))
    (on_keeps (λ (k : ReferenceValue). k.path) paths_keep))
    (on_keeps (λ (k : ReferenceValue). k.query) (options_keep texts_keep)))
    (on_keeps (λ (k : ReferenceValue). k.fragment) (options_keep texts_keep)))

-- ---- sort keys

then_equal : (o : Ordering) → ordering_then o Equal ≡ o
then_equal Less = refl
then_equal Equal = refl
then_equal Greater = refl

-- their order is that of the keys
pub text_order-sort_key : (k l : ReferenceValue) → text_order (sort_key k) (sort_key l) ≡ key_cmp k l
text_order-sort_key k l =
    (λ i. text_order (sym (append-nil (sort_key k)) i) (sym (append-nil (sort_key l)) i)) ∙ keys_keep.decides k l [] [] ∙ then_equal (key_cmp k l)

-- they are the same exactly where the keys are
pub sort_key-same : (k l : ReferenceValue) → (sort_key k ≡ sort_key l) ↔ (k ≡ l)
sort_key-same k l = (
  λ same. keys_separate k l (ap is_eq (sym (text_order-sort_key k l) ∙ ap (text_order (sort_key k)) (sym same)) ∙ ap is_eq (tied_itself texts_total (sort_key k))),
  λ same. ap sort_key same,
)

pub ruleset laws = (text_order-sort_key, sort_key-same)
