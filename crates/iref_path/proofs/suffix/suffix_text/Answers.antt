use Rattle.std.proofs.Common.{arith, sym}
use Rattle.iref_grammar.specs.PathValue.{read_path}
use Rattle.iref_path.specs.Suffixes.{items_path}
use Rattle.iref_path.proofs.{SpellLemmas.{path-utf8}, SuffixLemmas.{suffix-reads}}
use Rattle.iref_path.proofs.suffix.suffix_text.Goals as goal

pub from_utf8_unchecked-text-requires : goal.from_utf8_unchecked-text-requires
from_utf8_unchecked-text-requires g c =
    let left = suffix-reads g.C.CharSet.tests g.met.C.CharSet.above_ascii (read_path c.args.prefix.now) c.args.path.now (items_path c.in-Some.rest) c.requires (sym c.in-Some.ensures.rest) in
    grind (arith, path-utf8 g.C.CharSet.tests)

pub returns-clause-value : goal.returns-clause-value
returns-clause-value g c =
    grind (arith, suffix-reads g.C.CharSet.tests g.met.C.CharSet.above_ascii (read_path c.args.prefix.now) c.args.path.now (items_path c.in-Some.rest) c.requires (sym c.in-Some.ensures.rest))

pub returns-clause-path : goal.returns-clause-path
returns-clause-path g c =
    grind (arith, suffix-reads g.C.CharSet.tests g.met.C.CharSet.above_ascii (read_path c.args.prefix.now) c.args.path.now (items_path c.in-Some.rest) c.requires (sym c.in-Some.ensures.rest))
