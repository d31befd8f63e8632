use Rattle.std.proofs.Common.{arith, rules, map, sym, ap, ◌∙◌, subst}
use Rattle.iref_component.specs.{Components.{text_of}, Paths.{path_value, segments_left}}
use Rattle.iref_component.specs.PathEdits.{EditsTo, path_mut_context, path_mut_value}
use Rattle.iref_grammar.specs.{Contexts.{is_readable_path}, PathValue.{read_path}}
use Rattle.iref_grammar.proofs.PathTestLemmas.{is_path-segments}
use Rattle.iref_grammar.specs.PathSteps.{joined, appended}
use Rattle.iref_grammar.proofs.ReadableStepLemmas.{appended-readable}
use Rattle.iref_component.proofs.ManyLemmas.{copy_edit, items_drained, joined_relative}
use Rattle.iref_component.proofs.path_mut.PathMut.join.Goals as goal

pub returns-then-is_absolute : goal.returns-then-is_absolute
unfolding joined
returns-then-is_absolute g c = grind arith

pub put-requires-clause-reads : goal.put-requires-clause-reads
put-requires-clause-reads g c = λ old_reads.
    let p = c.args.self.now in
    let set = g.C.CharSet.tests in
    let above = g.met.C.CharSet.above_ascii in
    let taken = c.in_ok-append.ensures.edit in
    let bytes = c.in_ok-bytes.ensures ∙ c.text.ensures.value in
    let items = items_drained text_of segments_left _ taken.1 taken.3 ∙ taken.2.0 in
    let value = copy_edit (λ context. appended context (map text_of taken.1)) c.of_target-copy.ensures.editor (search rules) taken.4 in
    let read = ap read_path c.text-2.ensures.value ∙ value ∙ (λ i. appended (path_mut_context p) (items i) (read_path (bytes i))) in
    let segments = sym (is_path-segments set above (text_of c.args.path)) ∙ c.args.path.in_rule in
    ap (is_readable_path set (path_mut_context p)) read ∙ appended-readable set (path_mut_context p) (path_value c.args.path).segments (path_mut_value p) segments old_reads

pub returns : goal.returns
returns g c =
    let p = c.args.self.now in
    let taken = c.in_ok-append.ensures.edit in
    let bytes = c.in_ok-bytes.ensures ∙ c.text.ensures.value in
    let items = items_drained text_of segments_left _ taken.1 taken.3 ∙ taken.2.0 in
    let value = copy_edit (λ context. appended context (map text_of taken.1)) c.of_target-copy.ensures.editor (search rules) taken.4 in
    let read = ap read_path c.text-2.ensures.value ∙ value ∙ (λ i. appended (path_mut_context p) (items i) (read_path (bytes i))) in
    let relative = sym c.is_absolute.ensures ∙ c.if-is_absolute.false in
    subst (λ value. EditsTo value p c.put.new.self c.put.result) (read ∙ sym (joined_relative (path_mut_context p) (path_value c.args.path) (path_mut_value p) relative)) c.put.ensures
