use Rattle.std.proofs.{Common.{arith, Some, None}, lemmas.Str.Pattern.{rfind_char}}
use Rattle.iref_grammar.specs.Grammar.{slash}
use Rattle.iref_path.proofs.PathTextLemmas.{directory-cut, directory-uncut}
use Rattle.iref_path.proofs.directory.directory_text.Goals as goal

pub returns-in-Some-clause-text : goal.returns-in-Some-clause-text
returns-in-Some-clause-text g c =
    let found = rfind_char slash c.args.path.now (Some c.in-Some.at) c.in-Some.ensures.cases (omega arith) in
    grind (arith, directory-cut c.args.path.now c.in-Some.at found.0 found.1 found.2)

pub returns-in-None-clause-text : goal.returns-in-None-clause-text
returns-in-None-clause-text g c = directory-uncut c.args.path.now (rfind_char slash c.args.path.now None c.in-None.ensures.cases (omega arith))
