use Rattle.std.proofs.Common.{rules, ◌≡◌, [], ◌∷◌}
use Rattle.iref_grammar.specs.{Grammar.{hash_sign}, Texts.{before}}
use Rattle.iref_grammar.proofs.FrontLemmas.{read_reference-before_hash, is_reference-before_hash}
use Rattle.iref_reference_text.proofs.{EditLemmas.{front_ends}, ReferenceTextLemmas.{front-range}}
use Rattle.iref_reference_text.proofs.reference_text.ReferenceText.without_fragment.Goals as goal

pub range-requires-clause-end_boundary : goal.range-requires-clause-end_boundary
range-requires-clause-end_boundary g c = search (rules, front_ends g.C.CharSet.tests g.met.C.CharSet.above_ascii, g.met.R.HeldRule.references g.C.CharSet.tests)

pub returns-clause-text : goal.returns-clause-text
returns-clause-text g c = search (rules, front-range)

pub returns-clause-value : goal.returns-clause-value
returns-clause-value g c =
    let cut : c.range.result.now ≡ before (hash_sign ∷ []) c.args.self.now = search (rules, front-range) in
    rw cut (read_reference-before_hash c.args.self.now)

pub returns-clause-in_rule : goal.returns-clause-in_rule
returns-clause-in_rule g c =
    let cut : c.range.result.now ≡ before (hash_sign ∷ []) c.args.self.now = search (rules, front-range) in
    rw cut (search (rules, is_reference-before_hash, g.met.R.HeldRule.references g.C.CharSet.tests))
