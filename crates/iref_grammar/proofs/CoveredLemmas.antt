-- Where some readable reference leads to a text, a candidate does, and is not longer.
use Rattle.std.proofs.Common.{◌≡◌, ◌≢◌, Bool, true, false, ◌&&◌, List, [], ◌∷◌, length, sym, ◌∙◌, ap, subst, Option, Some, None, is_some, true≢false}
use Rattle.std.specs.List.{list_any}
use Rattle.iref_grammar.specs.{Characters.{CharTests, AreAboveAscii}, Rules.{Text}, Authority.{AuthorityValue}}
use Rattle.iref_grammar.specs.Contexts.{fits}
use Rattle.iref_grammar.specs.Reference.{ReferenceValue, context_of, spell, read_reference, is_readable}
use Rattle.iref_grammar.proofs.{ReadablePartsLemmas.{readable_parts}, ReadableLemmas.{readable_read}}
use Rattle.iref_grammar.specs.{Resolution.{resolved}, Relativized.{candidates, relativized}}
use Rattle.iref_grammar.specs.RelativizedLaws.{AreReadable, LeadsExactly, IsNotLonger}
use Rattle.iref_grammar.proofs.{RelativeLemmas.{parts}, ResolvedLemmas.{resolved-readable}}
use Rattle.iref_grammar.proofs.ChoiceLemmas.{serves, served-some, served-shortest}
use Rattle.iref_grammar.proofs.FullCaseLemmas.{IsServed, scheme_served, authority_served}
use Rattle.iref_grammar.proofs.PathCaseLemmas.{empty_served, root_served, relative_served}

pub readable-fits : (set : CharTests) (r : ReferenceValue) → is_readable set r ≡ true → fits (context_of r) r.path ≡ true
readable-fits set r readable = let own = readable_parts set r readable in λ i. own.follows i && own.reads i

-- by the row of resolution (section 5.2.2)
served : (set : CharTests) (base s : ReferenceValue) → is_readable set base ≡ true → is_readable set s ≡ true → IsServed base s
served set base s readable_base readable = by s.scheme s.authority s.path.absolute s.path.segments s.query s.fragment (readable-fits set s readable)
  where
    by : (scheme : Option Text) (authority : Option AuthorityValue) (absolute : Bool) (segments : List Text) (query fragment : Option Text) →
        let s = parts scheme authority (record { absolute = absolute; segments = segments }) query fragment in fits (context_of s) s.path ≡ true → IsServed base s
    by (Some scheme) authority absolute segments query fragment fit = scheme_served base scheme authority query fragment absolute segments fit
    by None (Some authority) absolute segments query fragment fit = authority_served base authority query fragment absolute segments fit
    by None None true segments query fragment fit = root_served base query fragment segments fit
    by None None false [] query fragment fit = empty_served base (readable-fits set base readable_base) fragment query
    by None None false (t ∷ rest) query fragment fit = relative_served base (readable_parts set base readable_base).follows query fragment t rest fit

-- readable references with one text are one
pub one_value : (set : CharTests) → AreAboveAscii set → (r s : ReferenceValue) → is_readable set r ≡ true → is_readable set s ≡ true → spell r ≡ spell s → r ≡ s
one_value set above r s h k e = sym (readable_read set above r h) ∙ ap read_reference e ∙ readable_read set above s k

-- what leads to the target's text leads to the target
pub exact_value : (set : CharTests) (target base s : ReferenceValue) → AreReadable set target base → is_readable set s ≡ true → LeadsExactly base s target → resolved base s ≡ target
exact_value set target base s are readable leads = one_value set are.characters (resolved base s) target (resolved-readable set base s are.readable_base readable) are.readable_target leads

-- of each readable reference that leads to the text, a candidate does, and is not longer
covered : (set : CharTests) (target base s : ReferenceValue) → AreReadable set target base → is_readable set s ≡ true → LeadsExactly base s target → list_any (serves target base (length (spell s))) (candidates target base) ≡ true
covered set target base s are readable leads =
    subst (λ t. list_any (serves t base (length (spell s))) (candidates t base) ≡ true) (exact_value set target base s are readable leads) (served set base s are.readable_base readable)

-- ---- the answer

pub relativized-some : (set : CharTests) (target base s : ReferenceValue) → AreReadable set target base → is_readable set s ≡ true → LeadsExactly base s target → is_some (relativized target base) ≡ true
relativized-some set target base s are readable leads = served-some target base (length (spell s)) (covered set target base s are readable leads)

pub relativized-none : (set : CharTests) (target base s : ReferenceValue) → AreReadable set target base → relativized target base ≡ None → is_readable set s ≡ true → spell (resolved base s) ≢ spell target
relativized-none set target base s are none readable = λ leads. true≢false (sym (relativized-some set target base s are readable leads) ∙ ap is_some none)

pub relativized-shortest : (set : CharTests) (target base r s : ReferenceValue) → AreReadable set target base → relativized target base ≡ Some r → is_readable set s ≡ true → LeadsExactly base s target → IsNotLonger r s
relativized-shortest set target base r s are some readable leads = served-shortest target base r (length (spell s)) (covered set target base s are readable leads) some
