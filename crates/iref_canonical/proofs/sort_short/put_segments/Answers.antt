use Rattle.std.proofs.Common.{arith, ◌-◌, ◌<◌, ap, length, length-append, length-take, refl}
use Rattle.std.proofs.lemmas.Bool.Decides.{nat_tests}
use Rattle.iref_canonical.proofs.SortBlockLemmas.{dotless_block, dotless_slash, dotless_text, found_within, front_is, last_is, slash_is}
use Rattle.iref_canonical.proofs.SortPutLemmas.{all_put, one_put}
use Rattle.iref_canonical.proofs.sort_short.put_segments.Goals as goal

pub loop-end-preserved-then-left-gt16 : goal.loop-end-preserved-then-left-gt16
loop-end-preserved-then-left-gt16 c =
    let bytes = c.args.text.bytes.now in
    let from = c.loop-end.from in
    record {
      putting = one_put _ _ _ _ _ _ _ _ _ _ c.loop-end.invariant.putting (c.store_block.ensures 16 (omega arith)) (front_is bytes from (omega arith) c.args.text.len 16 (grind (arith, nat_tests)) (omega arith));
      within = omega arith;
      dotless = dotless_block bytes from c.loop-end.invariant.dotless _ 16 c.position_of-found.ensures (grind (arith, nat_tests));
    }

pub returns-then-left-found : goal.returns-then-left-found
returns-then-left-found c =
    let bytes = c.args.text.bytes.now in
    let from = c.loop-end.from in
    let left = c.args.text.len - from in
    let most = found_within bytes from (omega arith) in
    let last = last_is bytes from (omega arith) c.args.text.len (omega arith) in
    record {
      put = all_put _ _ _ _ _ (one_put _ _ _ _ _ _ _ _ _ _ c.loop-end.invariant.putting (c.store_block.ensures left (omega arith)) last);
      dotless = dotless_text c.args.text.len bytes (omega arith) (grind (arith, nat_tests)) (λ k l. dotless_block bytes from c.loop-end.invariant.dotless _ left c.position_of-found.ensures (omega arith) k (omega arith));
    }

pub put_slash-end-requires : goal.put_slash-end-requires
put_slash-end-requires c =
    let bytes = c.args.text.bytes.now in
    let from = c.loop-end.from in
    let most = found_within bytes from (omega arith) in
    let less : c.position_of-found.result < 16 = grind (arith, nat_tests) in
    let is = ap length (slash_is bytes from (omega arith) c.args.text.len _ c.position_of-found.ensures less (omega arith)) in
    let len = (c.store_block.ensures 0 (omega arith)).len in
    let range = c.loop-end.invariant.putting.range in
    grind (arith, length-append, length-take)

pub loop-end-preserved : goal.loop-end-preserved
loop-end-preserved c =
    let bytes = c.args.text.bytes.now in
    let from = c.loop-end.from in
    let most = found_within bytes from (omega arith) in
    let less : c.position_of-found.result < 16 = grind (arith, nat_tests) in
    let is = slash_is bytes from (omega arith) c.args.text.len _ c.position_of-found.ensures less (omega arith) in
    let first = one_put _ _ _ _ _ _ _ _ _ _ c.loop-end.invariant.putting (c.store_block.ensures c.position_of-found.result (omega arith)) is in
    record {
      putting = one_put _ _ _ _ _ _ _ _ _ _ first c.put_slash-end.ensures refl;
      within = omega arith;
      dotless = dotless_slash bytes from c.loop-end.invariant.dotless _ c.position_of-found.ensures (grind (arith, nat_tests));
    }
