use Rattle.std.proofs.Common.{sym, ap, ◌∙◌}
use Rattle.std.specs.Cmp.Lexicographic.{same_text, other_text}
use Rattle.iref_grammar.specs.Tests.{is_path}
use Rattle.iref_path.proofs.SlashLemmas.{cut_last}
use Rattle.iref_grammar.proofs.PathGrammarLemmas.{path_parts}
use Rattle.iref_path.proofs.PathTextLemmas.{parent-slice, parent-guarded, parent-root, nothing, something}
use Rattle.iref_path.proofs.directory.parent_text.Goals as goal

pub returns-else-is_empty-2-clause-parent : goal.returns-else-is_empty-2-clause-parent
returns-else-is_empty-2-clause-parent g c =
    sym (parent-root c.args.path.now c.in_ok-front.front.now c.in_ok-front.last.now (cut_last _ _ _ c.in_ok-front.ensures.cases)
    (nothing _ c.if-is_empty.ensures) (something _ c.if-is_empty-2.ensures))

pub returns-then-eq-clause-parent : goal.returns-then-eq-clause-parent
returns-then-eq-clause-parent g c =
    sym (parent-guarded c.args.path.now c.in_ok-front.front.now c.in_ok-front.last.now (cut_last _ _ _ c.in_ok-front.ensures.cases) (same_text _ _ c.if-eq.ensures))

pub returns-else-eq-clause-parent : goal.returns-else-eq-clause-parent
returns-else-eq-clause-parent g c =
    sym (parent-slice c.args.path.now c.in_ok-front.front.now c.in_ok-front.last.now (cut_last _ _ _ c.in_ok-front.ensures.cases)
    (something _ c.if-is_empty.ensures) (other_text _ _ c.if-eq.ensures))

pub returns-else-eq-clause-path : goal.returns-else-eq-clause-path
returns-else-eq-clause-path g c =
    let found = cut_last _ _ _ c.in_ok-front.ensures.cases in
    (path_parts _ g.met.C.CharSet.above_ascii c.in_ok-front.front.now c.in_ok-front.last.now (ap (is_path g.C.CharSet.tests) (sym found.0) ∙ c.requires)).0
