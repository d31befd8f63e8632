-- Links rewritten relative to their page.
use Rattle.std.proofs.Common.{◌≡◌, true, subst, IfOk, Result, Ok, Err, is_some}
use Rattle.iref.specs.{Key.{AreAlike}, Reference.{ReferenceValue}}
use Rattle.iref.specs.{Relatives.{ClimbsNoMore, LeadsToTarget, WritesPathAlone}, Resolution.{resolved}}
use Rattle.iref_examples.specs.Links.{IsRelinked}

-- what leads from the page to what the link resolves to
pub is_relinked : {X E : Type 0} (r : Result X E) (value : X → ReferenceValue) (base target page link : ReferenceValue)
    → base ≡ page → target ≡ resolved page link → is_some base.scheme ≡ true → is_some target.scheme ≡ true
    → IfOk r (λ it. LeadsToTarget target base (value it)) → IfOk r (λ it. WritesPathAlone target base (value it)) → IfOk r (λ it. ClimbsNoMore target base (value it))
    → IfOk r (λ it. IsRelinked page link (value it))
is_relinked (Ok x) value base target page link b t s u leads alone least =
    let answer = value x in
    record {
      leads = subst (λ it. AreAlike (resolved page answer) it) t (subst (λ it. AreAlike (resolved it answer) target) b (leads s u));
      alone = subst (λ it. WritesPathAlone it page answer) t (subst (λ it. WritesPathAlone target it answer) b alone);
      least = subst (λ it. ClimbsNoMore it page answer) t (subst (λ it. ClimbsNoMore target it answer) b least);
    }
is_relinked (Err e) value base target page link b t s u leads alone least = tt
