use Rattle.std.proofs.{Common.{chars, ap, sym, ◌∙◌}, lemmas.List.{nil_from_length}, lemmas.Str.{chars-nil}}
use Rattle.iref_fault.specs.Faults.{first_char}
use Rattle.iref_fault.proofs.fault.first_char.Goals as goal

pub returns-in_err-first : goal.returns-in_err-first
returns-in_err-first c = c.from_residual.ensures ∙ sym (ap first_char (ap chars (nil_from_length c.args.text.now c.in_err-first.ensures) ∙ chars-nil))
