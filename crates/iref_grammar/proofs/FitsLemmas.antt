-- Each step of a path keeps it readable where it stands.
use Rattle.std.proofs.Common.{arith, ◌≡◌, Bool, true, false, cond, List, [], ◌∷◌, ◌++◌, fold, refl}
use Rattle.std.proofs.lemmas.Grind.{common_steps}
use Rattle.iref_grammar.specs.{declared.context.PathContext.{PathContext}, Rules.{Text}, Texts.{is_empty, all_but_last}}
use Rattle.iref_grammar.specs.{PathValue.{PathValue}, Contexts.{fits}}
use Rattle.iref_grammar.specs.{Guard.{guarded_list}, NormalList.{normal}}
use Rattle.iref_grammar.specs.PathSteps.{lazy_pushed, popped, closed_path, followed, pushed, appended, lazy_appended, replaced, joined, normalized, cleared}
use Rattle.iref_grammar.proofs.GuardLemmas.{guarded-fits}

pub is_empty-append : (front : List Text) (s : Text) (rest : List Text) → is_empty (front ++ s ∷ rest) ≡ false
is_empty-append [] s rest = refl
is_empty-append (f ∷ front) s rest = refl

pub is_empty-snoc : (ts : List Text) (s : Text) → is_empty (ts ++ s ∷ []) ≡ false
is_empty-snoc ts s = is_empty-append ts s []

-- the empty list fits everywhere
fits-nil : (context : PathContext) (absolute : Bool) → fits context (record { absolute = absolute; segments = [] }) ≡ true
fits-nil context absolute = grind arith

fits-cond : (context : PathContext) (b : Bool) (p q : PathValue) → fits context p ≡ true → fits context q ≡ true → fits context (cond b p q) ≡ true
fits-cond context true p q h k = h
fits-cond context false p q h k = k

-- ---- the steps

pub lazy_pushed-fits : (context : PathContext) (s : Text) (p : PathValue) → fits context p ≡ true → fits context (lazy_pushed context s p) ≡ true
unfolding lazy_pushed
lazy_pushed-fits context s p h = grind (arith, common_steps, guarded-fits)

pub shortened-fits : (context : PathContext) (p : PathValue) → fits context p ≡ true → fits context (guarded_list (record { absolute = p.absolute; segments = all_but_last p.segments })) ≡ true
unfolding guarded_list
shortened-fits context p h = grind arith

pub popped-fits : (context : PathContext) (p : PathValue) → fits context p ≡ true → fits context (popped context p) ≡ true
unfolding popped
popped-fits context p h = grind (arith, common_steps, fits-cond, lazy_pushed-fits, shortened-fits)

pub closed_path-fits : (context : PathContext) (p : PathValue) → fits context p ≡ true → fits context (closed_path context p) ≡ true
closed_path-fits context p h = fits-cond context (is_empty p.segments) _ _ h (lazy_pushed-fits context [] p h)

pub followed-fits : (context : PathContext) (p : PathValue) (s : Text) → fits context p ≡ true → fits context (followed context p s) ≡ true
followed-fits context p s h = grind (arith, common_steps, fits-cond, popped-fits, lazy_pushed-fits)

pub pushed-fits : (context : PathContext) (s : Text) (p : PathValue) → fits context p ≡ true → fits context (pushed context s p) ≡ true
unfolding pushed
pushed-fits context s p h = grind (arith, common_steps, fits-cond, lazy_pushed-fits, followed-fits)

all_followed-fits : (context : PathContext) (items : List Text) (p : PathValue) → fits context p ≡ true → fits context (fold (followed context) p items) ≡ true
all_followed-fits context [] p h = h
all_followed-fits context (s ∷ items) p h = all_followed-fits context items (followed context p s) (followed-fits context p s h)

pub appended-fits : (context : PathContext) (items : List Text) (p : PathValue) → fits context p ≡ true → fits context (appended context items p) ≡ true
unfolding appended
appended-fits context items p h = grind (arith, common_steps, all_followed-fits, fits-cond, closed_path-fits)

pub lazy_appended-fits : (context : PathContext) (items : List Text) (p : PathValue) → fits context p ≡ true → fits context (lazy_appended context items p) ≡ true
unfolding lazy_appended
lazy_appended-fits context [] p h = h
lazy_appended-fits context (s ∷ items) p h = lazy_appended-fits context items (lazy_pushed context s p) (lazy_pushed-fits context s p h)

pub replaced-fits : (context : PathContext) (new p : PathValue) → fits context (replaced context new p) ≡ true
replaced-fits context new p = guarded-fits context new

pub joined-fits : (context : PathContext) (new p : PathValue) → fits context p ≡ true → fits context (joined context new p) ≡ true
unfolding joined
joined-fits context new p h = fits-cond context new.absolute _ _ (replaced-fits context new p) (appended-fits context new.segments p h)

pub normalized-fits : (context : PathContext) (p : PathValue) → fits context (normalized context p) ≡ true
normalized-fits context p = guarded-fits context (normal p)

pub cleared-fits : (context : PathContext) (p : PathValue) → fits context (cleared p) ≡ true
cleared-fits context p = fits-nil context p.absolute
