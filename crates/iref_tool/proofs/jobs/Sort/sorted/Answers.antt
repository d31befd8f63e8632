use Rattle.std.proofs.{Common.{◌≡◌, ◌++◌, ◌∷◌, [], map, arith, subst, ap, ◌∙◌}, lemmas.Grind.{common_steps}}
use Rattle.std.specs.{List.Sorted.{IsPermutation, IsStable}, Ordering.{on}, Prelude.{IfOk}}
use Rattle.iref.specs.{Key.{key_cmp}, Lists.{key_of_text}}
use Rattle.iref_reference.specs.References.{reference_text}
use Rattle.iref_tool.specs.Jobs.{lines_in}
use Rattle.iref_tool.proofs.JobLemmas.{all_read, line_kept, line_passed}
use Rattle.iref_tool.proofs.jobs.Sort.sorted.Goals as goal

pub loop-line-preserved-in_ok-push : goal.loop-line-preserved-in_ok-push
loop-line-preserved-in_ok-push c =
    let more : map (λ r. reference_text r) c.push.new.self.items ≡ map (λ r. reference_text r) c.loop-line.references.items ++ reference_text c.in-Ok.reference ∷ [] = grind (arith, common_steps, c.in_ok-push.ensures.items) in
    line_kept c.args.self.now.text.items _ c.in-Some.line.now _ (reference_text c.in-Ok.reference) _ _ c.loop-line.invariant c.in-Some.ensures.0 c.in-Some.ensures.1 c.in-Ok.ensures.1 c.in-Ok.ensures.0 more

pub loop-line-preserved : goal.loop-line-preserved
loop-line-preserved c = line_passed c.args.self.now.text.items _ c.in-Some.line.now _ _ _ c.loop-line.invariant c.in-Some.ensures.0 c.in-Some.ensures.1 c.in_default-reference.ensures

pub returns-clause-same : goal.returns-clause-same
returns-clause-same c =
    let all : map (λ r. reference_text r) c.as_slice.result.now ≡ lines_in c.args.self.now = ap (map (λ r. reference_text r)) c.as_slice.ensures.value ∙ all_read c.args.self.now _ _ c.loop-line.invariant c.in_default.ensures in
    subst (λ l. IfOk c.sorted.result (λ sorted. IsPermutation l (map (λ r. reference_text r) sorted.items))) all c.sorted.ensures.same

pub returns-clause-stable : goal.returns-clause-stable
returns-clause-stable c =
    let all : map (λ r. reference_text r) c.as_slice.result.now ≡ lines_in c.args.self.now = ap (map (λ r. reference_text r)) c.as_slice.ensures.value ∙ all_read c.args.self.now _ _ c.loop-line.invariant c.in_default.ensures in
    subst (λ l. IfOk c.sorted.result (λ sorted. IsStable (on key_of_text key_cmp) l (map (λ r. reference_text r) sorted.items))) all c.sorted.ensures.stable
