-- Each step of a path has the segments of its path, its arguments, and `.`, `..` and the empty segment.
use Rattle.std.proofs.Common.{arith, ◌≡◌, ℕ, zero, suc, Bool, true, false, cond, List, [], ◌∷◌, fold, refl, codes, replicate}
use Rattle.std.proofs.{lemmas.Grind.{common_steps}, lemmas.List.Folds.{list_all-append}, lemmas.Bool.{and_from}}
use Rattle.std.specs.List.{list_all}
use Rattle.iref_grammar.specs.{declared.context.PathContext.{PathContext}, Rules.{Text}, Texts.{is_empty, all_but_last}}
use Rattle.iref_grammar.specs.PathValue.{PathValue, shows_its_list}
use Rattle.iref_grammar.specs.{Guard.{guarded, guarded_list, with_dot}, NormalList.{without_lone_empty, normal}}
use Rattle.iref_grammar.specs.NormalReading.{staying_before, leading_parents, items}
use Rattle.iref_grammar.specs.PathSteps.{lazy_pushed, popped, closed_path, followed, pushed, appended, lazy_appended, joined, normalized}
use Rattle.iref_grammar.proofs.TextLemmas.{second_of_both}
use Rattle.iref_grammar.proofs.ItemLemmas.{normal_segments-is}

-- the test takes the segments that steps write of their own
pub record TakesDots (test : Text → Bool) : Type 0 where
  pub empty : test [] ≡ true
  pub dot : test (codes ".") ≡ true
  pub parent : test (codes "..") ≡ true

abbrev pub all_in : (Text → Bool) → PathValue → Bool
all_in test p = list_all test p.segments

pub in-cond : (test : Text → Bool) (b : Bool) (p q : PathValue) → all_in test p ≡ true → all_in test q ≡ true → all_in test (cond b p q) ≡ true
in-cond test true p q h k = h
in-cond test false p q h k = k

pub guarded-in : (test : Text → Bool) → TakesDots test → (context : PathContext) (p : PathValue) → all_in test p ≡ true → all_in test (guarded context p) ≡ true
unfolding guarded
guarded-in test takes context p h = grind arith

pub guarded_list-in : (test : Text → Bool) → TakesDots test → (p : PathValue) → all_in test p ≡ true → all_in test (guarded_list p) ≡ true
unfolding guarded_list
guarded_list-in test takes p h = in-cond test (shows_its_list p) p (with_dot p) h (and_from _ _ takes.dot h)

pub lazy_pushed-in : (test : Text → Bool) → TakesDots test → (context : PathContext) (s : Text) (p : PathValue) → test s ≡ true → all_in test p ≡ true → all_in test (lazy_pushed context s p) ≡ true
unfolding lazy_pushed
lazy_pushed-in test takes context s p k h = grind (arith, common_steps, guarded-in)

pub in-shortened : (test : Text → Bool) (list : List Text) → list_all test list ≡ true → list_all test (all_but_last list) ≡ true
in-shortened test [] h = refl
in-shortened test (s ∷ []) h = refl
in-shortened test (s ∷ t ∷ list) h = grind (arith, in-shortened test (t ∷ list))

pub popped-in : (test : Text → Bool) → TakesDots test → (context : PathContext) (p : PathValue) → all_in test p ≡ true → all_in test (popped context p) ≡ true
unfolding popped
popped-in test takes context p h = grind (arith, common_steps, in-cond, lazy_pushed-in, guarded_list-in, in-shortened)

pub closed_path-in : (test : Text → Bool) → TakesDots test → (context : PathContext) (p : PathValue) → all_in test p ≡ true → all_in test (closed_path context p) ≡ true
closed_path-in test takes context p h = in-cond test (is_empty p.segments) _ _ h (lazy_pushed-in test takes context [] p takes.empty h)

pub followed-in : (test : Text → Bool) → TakesDots test → (context : PathContext) (p : PathValue) (s : Text) → test s ≡ true → all_in test p ≡ true → all_in test (followed context p s) ≡ true
followed-in test takes context p s k h = grind (arith, common_steps, popped-in, lazy_pushed-in)

pub pushed-in : (test : Text → Bool) → TakesDots test → (context : PathContext) (s : Text) (p : PathValue) → test s ≡ true → all_in test p ≡ true → all_in test (pushed context s p) ≡ true
unfolding pushed
pushed-in test takes context s p k h = grind (arith, common_steps, in-cond, lazy_pushed-in, followed-in)

all_followed-in : (test : Text → Bool) → TakesDots test → (context : PathContext) (items : List Text) (p : PathValue) → list_all test items ≡ true → all_in test p ≡ true → all_in test (fold (followed context) p items) ≡ true
all_followed-in test takes context [] p k h = h
all_followed-in test takes context (s ∷ items) p k h = grind (arith, common_steps, second_of_both, followed-in, all_followed-in test takes context items (followed context p s))

pub appended-in : (test : Text → Bool) → TakesDots test → (context : PathContext) (items : List Text) (p : PathValue) → list_all test items ≡ true → all_in test p ≡ true → all_in test (appended context items p) ≡ true
unfolding appended
appended-in test takes context items p k h = grind (arith, common_steps, all_followed-in, closed_path-in)

pub lazy_appended-in : (test : Text → Bool) → TakesDots test → (context : PathContext) (items : List Text) (p : PathValue) → list_all test items ≡ true → all_in test p ≡ true → all_in test (lazy_appended context items p) ≡ true
unfolding lazy_appended
lazy_appended-in test takes context [] p k h = h
lazy_appended-in test takes context (s ∷ items) p k h = grind (arith, common_steps, second_of_both, lazy_pushed-in, lazy_appended-in test takes context items (lazy_pushed context s p))

pub joined-in : (test : Text → Bool) → TakesDots test → (context : PathContext) (new p : PathValue) → all_in test new ≡ true → all_in test p ≡ true → all_in test (joined context new p) ≡ true
unfolding joined
joined-in test takes context new p k h = grind (arith, common_steps, guarded-in, appended-in)

-- ---- normal lists

pub in-staying : (test : Text → Bool) (list : List Text) (behind : ℕ) → list_all test list ≡ true → list_all test (staying_before list behind) ≡ true
in-staying test [] behind h = refl
in-staying test (s ∷ rest) behind h = grind (arith, in-staying test rest behind)

pub in-parents : (test : Text → Bool) → TakesDots test → (k : ℕ) → list_all test (replicate k (codes "..")) ≡ true
in-parents test takes zero = refl
in-parents test takes (suc k) = and_from _ _ takes.parent (in-parents test takes k)

in-leading : (test : Text → Bool) → TakesDots test → (absolute : Bool) (k : ℕ) → list_all test (leading_parents absolute k) ≡ true
in-leading test takes true k = refl
in-leading test takes false k = in-parents test takes k

pub in-lone : (test : Text → Bool) (list : List Text) → list_all test list ≡ true → list_all test (without_lone_empty list) ≡ true
in-lone test list h = grind arith

pub normal-in : (test : Text → Bool) → TakesDots test → (p : PathValue) → all_in test p ≡ true → all_in test (normal p) ≡ true
normal-in test takes p h = grind (arith, common_steps, normal_segments-is, in-lone, list_all-append, in-leading, in-staying)

pub normalized-in : (test : Text → Bool) → TakesDots test → (context : PathContext) (p : PathValue) → all_in test p ≡ true → all_in test (normalized context p) ≡ true
normalized-in test takes context p h = guarded-in test takes context (normal p) (normal-in test takes p h)
