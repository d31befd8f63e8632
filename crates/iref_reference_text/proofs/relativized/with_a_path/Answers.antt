use Rattle.std.proofs.{Common.{◌≡◌, ◌∙◌, ◌&&◌, ap, arith, false, sym, true}, lemmas.Result.{IfOk-weaker}}
use Rattle.iref_grammar.specs.{ComponentTexts.{spell_components}, PathValue.{spell_path}}
use Rattle.iref_grammar.specs.{Relative.{with_only_path}, Relativized.{relative_path}}
use Rattle.iref_grammar.specs.{RelativizedChoice.{with_whole_path}, RelativizedTests.{is_reachable}}
use Rattle.iref_parse.specs.ReferenceSlices.{texts_of, value_of}
use Rattle.iref_path.specs.MeasuredPaths.{measured_text}
use Rattle.iref_reference_text.specs.{MeasuredReferences.{measured_components}, Relatives.{after_path}}
use Rattle.iref_reference_text.specs.ShortestTexts.{shared_of, shares_authority, shorter_texts}
use Rattle.iref_reference_text.proofs.ShortestTextLemmas.{path-steps, path-whole, shorter-spelled}
use Rattle.iref_reference_text.proofs.relativized.with_a_path.Goals as goal

pub returns-in-Some-clause-texts : goal.returns-in-Some-clause-texts
returns-in-Some-clause-texts c =
    let t = value_of c.args.target in
    let b = value_of c.args.base in
    let reached : (shares_authority (shared_of t b) && is_reachable t b) ≡ true = grind arith in
    let path : measured_text c.in-Some.path ≡ spell_path (relative_path t b) = grind arith in
    let steps : measured_components c.with_only_path.result ≡ spell_components (with_only_path (relative_path t b) t) =
    c.with_only_path.ensures.texts ∙ ap (λ p. after_path p (texts_of c.args.target)) path in
    let whole : measured_components c.with_whole_path-whole.result ≡ spell_components (with_whole_path t b) = c.with_whole_path-whole.ensures.texts b c.requires.shared in
    IfOk-weaker c.shorter.result _ _
    (λ _ e. e ∙ (λ i. shorter_texts (steps i) (whole i)) ∙ shorter-spelled (with_only_path (relative_path t b) t) (with_whole_path t b) ∙ ap spell_components (sym (path-steps t b reached)))
    c.shorter.ensures.texts

pub returns-in-None-clause-texts : goal.returns-in-None-clause-texts
returns-in-None-clause-texts c =
    let t = value_of c.args.target in
    let b = value_of c.args.base in
    let reached : (shares_authority (shared_of t b) && is_reachable t b) ≡ false = grind arith in
    c.with_whole_path-whole.ensures.texts b c.requires.shared ∙ ap spell_components (sym (path-whole t b reached))
