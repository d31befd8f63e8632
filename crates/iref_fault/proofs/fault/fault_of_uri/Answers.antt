use Rattle.std.proofs.Common.{sym, ◌∙◌}
use Rattle.iref_fault.proofs.FaultValueLemmas.{uri_value, no_scheme_value}
use Rattle.iref_fault.proofs.fault.fault_of_uri.Goals as goal

pub returns-then-has_scheme : goal.returns-then-has_scheme
returns-then-has_scheme g c = c.fault_of_reference.ensures ∙ uri_value g.C.CharSet.tests c.args.text.now c.utf8.text (sym c.has_scheme.ensures ∙ c.if-has_scheme.true)

pub returns-else-has_scheme : goal.returns-else-has_scheme
returns-else-has_scheme g c = no_scheme_value g.C.CharSet.tests c.args.text.now c.utf8.text (sym c.has_scheme.ensures ∙ c.if-has_scheme.false)
