use Rattle.std.proofs.Common.{◌≡◌, arith, subst}
use Rattle.iref.specs.{CountedEquality.{IsCountedAnswer}, Paths.{path_value}, CountedPath.{steps_taken}}
use Rattle.iref_examples.proofs.compared.Goals as goal

pub returns-clause-counted : goal.returns-clause-counted
returns-clause-counted c =
    let same : steps_taken c.new-steps.result c.path_eq_counted-equal.new.steps ≡ c.count.result = omega (arith, c.new-steps.ensures, c.count.ensures) in
    subst (λ steps. IsCountedAnswer (path_value c.args.a) (path_value c.args.b) c.path_eq_counted-equal.result steps) same c.path_eq_counted-equal.ensures.counted
