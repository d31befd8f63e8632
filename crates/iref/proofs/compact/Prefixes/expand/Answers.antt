use Rattle.std.proofs.Common.{rules, ◌≡◌}
use Rattle.std.specs.String.{string_bytes}
use Rattle.iref.specs.PrefixTable.{expanded, if_iri}
use Rattle.iref.proofs.compact.Prefixes.expand.Goals as goal

pub returns-clause-err : goal.returns-clause-err
unfolding expanded
returns-clause-err c =
    let e : expanded c.args.text.now c.args.self.now.entries ≡ if_iri (string_bytes c.in_ok-text.text) = search rules in
    rw e c.iri_of.ensures.err

pub returns-clause-ok : goal.returns-clause-ok
unfolding expanded
returns-clause-ok c =
    let e : expanded c.args.text.now c.args.self.now.entries ≡ if_iri (string_bytes c.in_ok-text.text) = search rules in
    rw e c.iri_of.ensures.ok
