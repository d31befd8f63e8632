use Rattle.std.proofs.{Common.{◌++◌, arith, append_assoc, ◌∙◌}, lemmas.List.{append-nil}}
use Rattle.iref_path.specs.{Pieces.{pieces_if_some}, NormalItems.{names_staying}}
use Rattle.iref_path.proofs.{SpellLemmas.{kept_size}, MergedPathLemmas.{size_last}}
use Rattle.iref_path.proofs.normal_items.stack.Stack.put_names.Goals as goal

pub put-requires : goal.put-requires
put-requires c = omega (arith, size_last _ _ _ c.in-Some.ensures.name, kept_size (pieces_if_some c.args.segments))

pub loop-name-preserved : goal.loop-name-preserved
loop-name-preserved c =
    let left = names_staying c.next_back_name.new.self in
    record {
      parents = c.in-Some.ensures.start ∙ c.loop-name.invariant.parents;
      items = λ front whole h. c.put.ensures.items (front ++ left) whole
          (rw (append_assoc, ← c.in-Some.ensures.name) (c.loop-name.invariant.items front whole h));
      size = omega (arith, size_last _ _ _ c.in-Some.ensures.name);
      readable = c.in-Some.ensures.readable;
    }

pub returns-clause-items : goal.returns-clause-items
returns-clause-items c = λ front whole h. rw (c.in_default.ensures.name.0, append-nil front) at (c.loop-name.invariant.items front whole h)
