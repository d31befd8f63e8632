-- What is known of what leads from a base to a target.
use Rattle.std.proofs.Common.{◌≡◌, true, ap, subst, sym, ◌∙◌}
use Rattle.iref_grammar.specs.{Characters.{CharTests}, Reference.{ReferenceValue, is_readable}}
use Rattle.iref_grammar.specs.{Relative.{relative_to}, RelativeLaws.{IsOnlyPath}}
use Rattle.iref_grammar.proofs.ReadableRelativeLemmas.{readable-stands}
use Rattle.iref_grammar.proofs.RelativeLemmas.{relative_to-leads, relative_to-leads_full, relative_to-least, relative_to-no_root, relative_to-only_path}
use Rattle.iref_reference.specs.Relatives.{ClimbsNoMore, LeadsThere, LeadsToTarget, WritesPathAlone}

module _ (set : CharTests) (target base answer : ReferenceValue) (readable : is_readable set target ≡ true) (answer_is : answer ≡ relative_to target base) where
  pub leads_there : is_readable set base ≡ true → LeadsThere target base answer
  leads_there readable_base full = rw answer_is (relative_to-leads target base full (readable-stands set target readable) (readable-stands set base readable_base))

  pub leads_to_target : is_readable set base ≡ true → LeadsToTarget target base answer
  leads_to_target readable_base full full_target =
      rw answer_is (relative_to-leads_full target base full_target full (readable-stands set target readable) (readable-stands set base readable_base))

  pub writes_path_alone : WritesPathAlone target base answer
  writes_path_alone agree = subst IsOnlyPath (sym answer_is) (relative_to-only_path target base agree.scheme agree.authority agree.root)

  pub climbs_no_more : ClimbsNoMore target base answer
  climbs_no_more full agree root = (
    ap (λ (r : ReferenceValue). r.path.absolute) answer_is ∙ relative_to-no_root target base agree.scheme agree.authority agree.root root,
    λ segments some leads.
        rw answer_is (relative_to-least target base full (readable-stands set target readable) agree.scheme agree.authority agree.root root segments some leads),
  )
