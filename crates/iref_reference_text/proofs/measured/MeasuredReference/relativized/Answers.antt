use Rattle.std.proofs.Common.{◌≡◌, ◌∙◌, ◌&&◌, ap, arith, false, sym, true, Some, is_some, option_map}
use Rattle.iref_grammar.proofs.ComponentLemmas.{is_some-copied}
use Rattle.iref_grammar.specs.{ComponentTexts.{spell_components}, PathValue.{spell_path}}
use Rattle.iref_parse.specs.ReferenceSlices.{texts_of, value_of}
use Rattle.iref_grammar.specs.RelativizedTests.{is_settled}
use Rattle.iref_reference_text.specs.{Relatives.{after_path}, ShortestTexts.{shared_of, shares_path, shares_query}}
use Rattle.iref_reference_text.proofs.ShortestTextLemmas.{chosen-fragment, chosen-none, chosen-path, chosen-tail}
use Rattle.iref_reference_text.proofs.measured.MeasuredReference.relativized.Goals as goal

pub returns-then-has_query-clause-texts : goal.returns-then-has_query-clause-texts
returns-then-has_query-clause-texts c =
    let t = value_of c.args.target in
    let b = value_of c.args.base in
    let query : shares_query (shared_of t b) ≡ true = grind arith in
    ap (λ x. Some x) c.fragment_alone.ensures.texts ∙ ap (option_map spell_components) (sym (chosen-fragment t b query))

pub returns-then-has_path-is_some-clause-texts : goal.returns-then-has_path-is_some-clause-texts
unfolding spell_path
returns-then-has_path-is_some-clause-texts c =
    let t = value_of c.args.target in
    let b = value_of c.args.base in
    let some = is_some-copied c.args.target.query in
    let query : shares_query (shared_of t b) ≡ false = grind arith in
    let path : (shares_path (shared_of t b) && is_some t.query) ≡ true = grind (arith, some) in
    ap (λ x. Some x) (c.with_only_path-tail.ensures.texts ∙ ap (λ p. after_path p (texts_of c.args.target)) c.kept.ensures.text)
    ∙ ap (option_map spell_components) (sym (chosen-tail t b query path))

pub returns-then-is_settled_there-clause-texts : goal.returns-then-is_settled_there-clause-texts
returns-then-is_settled_there-clause-texts c =
    let t = value_of c.args.target in
    let b = value_of c.args.base in
    let some = is_some-copied c.args.target.query in
    let query : shares_query (shared_of t b) ≡ false = grind arith in
    let path : (shares_path (shared_of t b) && is_some t.query) ≡ false = grind (arith, some) in
    let settled : is_settled t ≡ true = grind arith in
    ap (λ x. Some x) c.in_ok-with_a_path.ensures.texts ∙ ap (option_map spell_components) (sym (chosen-path t b query path settled))

pub returns-clause-texts : goal.returns-clause-texts
returns-clause-texts c =
    let t = value_of c.args.target in
    let b = value_of c.args.base in
    let some = is_some-copied c.args.target.query in
    let query : shares_query (shared_of t b) ≡ false = grind arith in
    let path : (shares_path (shared_of t b) && is_some t.query) ≡ false = grind (arith, some) in
    let settled : is_settled t ≡ false = grind arith in
    ap (option_map spell_components) (sym (chosen-none t b query path settled))
