use Rattle.std.proofs.Common.{arith, Some}
use Rattle.iref_canonical.specs.Padded.{text_in}
use Rattle.iref_canonical.proofs.{PaddedLemmas.{marked_size, part_in}, SortPutLemmas.{length_in}}
use Rattle.iref_canonical.proofs.padded.Padded.part.Goals as goal

pub skip-rest-requires-clause-within : goal.skip-rest-requires-clause-within
skip-rest-requires-clause-within c =
    omega (arith, marked_size c.args.mark (Some c.args.part.now) (text_in c.args.self) c.requires.begins, length_in c.args.self c.requires.padded)

pub returns-clause-text : goal.returns-clause-text
returns-clause-text c =
    let size = marked_size c.args.mark (Some c.args.part.now) (text_in c.args.self) c.requires.begins in
    part_in c.args.mark c.skip-rest.result.len c.args.part.now (text_in c.args.self) c.skip-rest.result.bytes.now c.requires.begins c.skip-rest.ensures.text
    (omega (arith, size, length_in c.args.self c.requires.padded))

pub returns-clause-padded : goal.returns-clause-padded
returns-clause-padded c =
    omega (arith, marked_size c.args.mark (Some c.args.part.now) (text_in c.args.self) c.requires.begins, length_in c.args.self c.requires.padded)
