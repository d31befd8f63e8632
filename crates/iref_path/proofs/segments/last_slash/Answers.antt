use Rattle.iref_grammar.specs.Rules.{Text}
use Rattle.std.proofs.Common.{ℕ, length, ◌≡◌, ◌+◌, ◌-◌, ◌<◌, ◌≤◌, ◌^◌, arith, drop, take}
use Rattle.std.proofs.{lemmas.Bool.Decides.{nat_tests}, lemmas.Nat.{leading_top}}
use lib.Count.{count_leading_zeros}
use Rattle.iref_path.specs.Slashes.{IsLastSlash, LacksSlashFrom, slash_mask}
use Rattle.iref_path.proofs.SlashLemmas.{last_slash_there, no_slash_there, slash_at_highest}
use Rattle.iref_path.proofs.segments.last_slash.Goals as goal

-- what stands behind the 16 bytes before the end
behind : (text : Text) (end : ℕ) → 16 ≤ end → LacksSlashFrom text end → LacksSlashFrom text (end - 16 + 16)
behind text end room h = λ i from within. h i (omega arith) within

-- the last slash of the 16 bytes
last_found : (text : Text) (end bits : ℕ) → end ≤ length text → 16 ≤ end → LacksSlashFrom text end → bits ≡ slash_mask (take 16 (drop (end - 16) text)) → 0 < bits → bits < 2 ^ 64
    → IsLastSlash text (end - 16 + (63 - count_leading_zeros 64 bits))
last_found text end bits within room none e some fits =
    let top = leading_top 64 bits some fits in
    let highest : 63 - count_leading_zeros 64 bits ≡ top.0 = omega (arith, top.1) in
    let below : bits < 2 ^ (top.0 + 1) = grind (arith, top.3) in
    rw highest (last_slash_there text (end - 16) (omega arith) (behind text end room none) top.0 (slash_at_highest top.0 _ (rw (← e) top.2) (rw (← e) below)))

pub overflow_add-result : goal.overflow_add-result
overflow_add-result c =
    let last = last_found _ _ c.slashes-bits.result c.loop-end.invariant.within c.loop-end-test.true c.loop-end.invariant.behind c.slashes-bits.ensures (omega arith) (omega arith) in
    omega (arith, last.within)

pub returns-then-bits-ne0 : goal.returns-then-bits-ne0
returns-then-bits-ne0 c =
    last_found _ _ _ c.loop-end.invariant.within c.loop-end-test.true c.loop-end.invariant.behind c.slashes-bits.ensures (omega arith) (omega arith)

pub loop-end-preserved : goal.loop-end-preserved
loop-end-preserved c =
    let end = c.loop-end.end in
    let none : slash_mask (take 16 (drop (end - 16) c.args.bytes.now)) ≡ 0 = grind (arith, nat_tests) in
    record {
      within = omega arith;
      behind = no_slash_there _ _ (omega arith) (behind _ end c.loop-end-test.true c.loop-end.invariant.behind) none;
    }
