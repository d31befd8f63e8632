use Rattle.std.proofs.{Common.{drop, eqb, length-drop, length-take-le, take, arith, w8}, lemmas.Simd.{bitmask_splat}}
use Rattle.iref_grammar.specs.Grammar.{slash}
use Rattle.iref_path.proofs.segments.slashes.Goals as goal

pub returns : goal.returns
returns c =
    let rest = drop c.args.at c.args.bytes.now in
    bitmask_splat w8 eqb (take 16 rest) 16 slash (length-take-le 16 rest (omega (arith, c.requires, length-drop c.args.at c.args.bytes.now))) (omega arith)
