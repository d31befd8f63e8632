use Rattle.std.proofs.Common.{rules, ◌≡◌, ap, ◌∙◌}
use Rattle.iref_grammar.specs.Contexts.{alone}
use Rattle.iref_grammar.specs.PathKey.{path_key}
use Rattle.iref_grammar.specs.PathSteps as step
use Rattle.iref_grammar.proofs.NormalPathLemmas.{path_key-normalized_alone}
use Rattle.iref_component.specs.Paths.{path_value}
use Rattle.iref_component.proofs.path.RuleText+S+PathRule+C.normalized.Goals as goal

pub returns-clause-equal : goal.returns-clause-equal
returns-clause-equal g c =
    let value : path_value c.new_unchecked.result ≡ step.normalized alone (path_value c.args.self.now) = search rules in
    ap path_key value ∙ path_key-normalized_alone (path_value c.args.self.now)
