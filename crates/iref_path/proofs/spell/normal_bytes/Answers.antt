use Rattle.std.proofs.Common.{arith}
use Rattle.iref_path.specs.Stacks.{in_order, path_of, stacked_text}
use Rattle.iref_path.proofs.SpellLemmas.{normal_size, normalized-spelled, read_size}
use Rattle.iref_path.proofs.spell.normal_bytes.Goals as goal

pub read-requires-clause-fits : goal.read-requires-clause-fits
read-requires-clause-fits c = omega (arith, read_size c.args.path.now _ c.split_root.ensures.path)

pub of_segments-requires : goal.of_segments-requires
of_segments-requires c = omega (arith, read_size c.args.path.now _ c.split_root.ensures.path)

pub to_bytes-requires : goal.to_bytes-requires
to_bytes-requires c =
    let same = c.read.ensures.listed c.if-stack.true in
    record {
      size = grind arith;
      countable = omega (arith, read_size c.args.path.now _ c.split_root.ensures.path, normal_size (path_of c.args.absolute c.split_root.result.1), c.guard_in-stack.ensures.short, c.read.ensures.size);
    }

pub returns-then-stack : goal.returns-then-stack
unfolding stacked_text
returns-then-stack c =
    let stack = c.read.new.self in
    let same = c.read.ensures.listed c.if-stack.true in
    let spelled = normalized-spelled c.args.context (path_of c.args.absolute c.split_root.result.1) (in_order stack.items.items) stack.size stack.first.now same (grind arith) (grind arith) in
    grind arith
