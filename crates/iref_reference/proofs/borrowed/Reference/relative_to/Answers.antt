use Rattle.std.proofs.{Common.{ap, ◌∙◌}, lemmas.Result.{IfOk-weaker}}
use Rattle.iref_grammar.specs.Reference.{read_reference}
use Rattle.iref_reference.proofs.RelativeLemmas.{climbs_no_more, leads_there, leads_to_target, writes_path_alone}
use Rattle.iref_reference.proofs.borrowed.Reference.relative_to.Goals as goal

pub returns-clause-leads : goal.returns-clause-leads
returns-clause-leads g c =
    IfOk-weaker c.to_owned.result _ _
    (λ _ e. leads_there g.C.CharSet.tests _ _ _ c.slices.ensures.readable (ap read_reference e ∙ (cc c.in_ok-reference.ensures.1)) c.slices-2.ensures.readable)
    c.to_owned.ensures

pub returns-clause-target : goal.returns-clause-target
returns-clause-target g c =
    IfOk-weaker c.to_owned.result _ _
    (λ _ e. leads_to_target g.C.CharSet.tests _ _ _ c.slices.ensures.readable (ap read_reference e ∙ (cc c.in_ok-reference.ensures.1)) c.slices-2.ensures.readable)
    c.to_owned.ensures

pub returns-clause-alone : goal.returns-clause-alone
returns-clause-alone g c =
    IfOk-weaker c.to_owned.result _ _
    (λ _ e. writes_path_alone g.C.CharSet.tests _ _ _ c.slices.ensures.readable (ap read_reference e ∙ (cc c.in_ok-reference.ensures.1)))
    c.to_owned.ensures

pub returns-clause-least : goal.returns-clause-least
returns-clause-least g c =
    IfOk-weaker c.to_owned.result _ _
    (λ _ e. climbs_no_more g.C.CharSet.tests _ _ _ c.slices.ensures.readable (ap read_reference e ∙ (cc c.in_ok-reference.ensures.1)))
    c.to_owned.ensures
