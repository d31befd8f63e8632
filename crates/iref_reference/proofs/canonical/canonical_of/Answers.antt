use Rattle.std.proofs.Common.{◌≡◌, true, ap, sym, subst, ◌∙◌}
use Rattle.iref_grammar.specs.{Characters.{uri_chars}, Reference.{IsReadable, read_reference}, Rules.{Text}}
use Rattle.iref_grammar.specs.Key.{key}
use Rattle.iref_canonical.specs.Canonical.{canonical_text}
use Rattle.iref_reference.proofs.CanonicalLemmas.{in_rule-canonical, key-canonical_text, readable-reference}
use Rattle.iref_reference.proofs.canonical.canonical_of.Given.{Over}
use Rattle.iref_reference.proofs.canonical.canonical_of.Goals as goal

kept_in_rule : (g : Over) (text : Text) → g.R.Rule.test g.C.CharSet.tests text ≡ true
    → g.R.Rule.test uri_chars (canonical_text (key (read_reference text))) ≡ true
kept_in_rule g text h =
    in_rule-canonical g.R.Rule.test g.R.HeldRule.allows_scheme g.met.R.HeldRule.references g.met.R.HeldRule.has_allowed_scheme g.met.R.HeldRule.by_scheme
    g.met.R.HeldRule.by_presence g.C.CharSet.tests g.met.C.CharSet.above_ascii text h

pub of_slices-requires-clause-in_rule : goal.of_slices-requires-clause-in_rule
of_slices-requires-clause-in_rule g c =
    ap (g.R.Rule.test uri_chars) (c.in_ok-copy.ensures.ok ∙ sym (c.is_plain.ensures c.if-is_plain.true)) ∙ kept_in_rule g c.args.text.now c.requires.in_rule

pub canonical_text-requires : goal.canonical_text-requires
canonical_text-requires g c =
    let set = g.C.CharSet.tests in
    let above = g.met.C.CharSet.above_ascii in
    let text = c.args.text.now in
    let reference = g.met.R.HeldRule.references set text c.requires.in_rule in
    subst (IsReadable set) (sym c.requires.slices) (readable-reference set above text reference)

pub new_unchecked-requires : goal.new_unchecked-requires
new_unchecked-requires g c =
    ap (g.R.Rule.test uri_chars) (c.in_ok-copy-2.ensures ∙ ap (λ r. canonical_text (key r)) c.requires.slices) ∙ kept_in_rule g c.args.text.now c.requires.in_rule

pub returns-clause-key : goal.returns-clause-key
returns-clause-key g c =
    ap (λ t. key (read_reference t)) (c.from_inner-2.ensures ∙ c.new_unchecked.ensures ∙ c.in_ok-copy-2.ensures ∙ ap (λ r. canonical_text (key r)) c.requires.slices)
    ∙ key-canonical_text g.C.CharSet.tests g.met.C.CharSet.above_ascii c.args.text.now
    (g.met.R.HeldRule.references g.C.CharSet.tests c.args.text.now c.requires.in_rule)
