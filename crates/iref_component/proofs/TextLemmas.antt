-- Texts of a rule as records.
use mathlib.Core.HLevel.{is_prop→PathP}
use Rattle.std.proofs.{Common.{◌≡◌, true}, Math.Bool.{Bool-set}}
use Rattle.iref_component.specs.declared.rule_text.RuleText.{RuleText}

-- two texts of a rule are one where what they are kept in is one
pub same_text : {S R C K s r k c : _} (v w : RuleText S R C K s r k c) → v.text ≡ w.text → v.rule ≡ w.rule → v ≡ w
same_text {s = s} {r = r} {c = c} v w text rule = λ i. record {
  text = text i;
  rule = rule i;
  in_rule = is_prop→PathP (λ i. r.test c.tests (s.bytes (text i)) ≡ true) (λ _. Bool-set _ _) v.in_rule w.in_rule i;
}
