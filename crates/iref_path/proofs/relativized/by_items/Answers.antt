use Rattle.std.proofs.{Common.{◌∙◌, ap, arith, bytes_eq, length, List, false}, lemmas.Bool.Decides.{nat_tests}}
use Rattle.iref_grammar.specs.{Rules.{Text}, Contexts.{alone}, PathValue.{read_path, spell_path}}
use Rattle.iref_grammar.specs.{Guard.{guarded}, NormalList.{count_parents, normal_segments}, Relativized.{shortened}}
use Rattle.iref_path.specs.{Spelling.{each_closed}, StepsBetween.{steps_with}}
use Rattle.iref_path.proofs.SpellLemmas.{normal_size-text}
use Rattle.iref_path.proofs.StepsBetweenLemmas.{parents-with_last, size-with_last, steps-whole}
use Rattle.iref_path.proofs.relativized.by_items.Goals as goal

pub items_between-requires-clause-room : goal.items_between-requires-clause-room
items_between-requires-clause-room c =
    let path = read_path c.args.path.now in
    let size = ap (λ l. length (each_closed l)) c.some_items-items.ensures.items in
    omega (arith, c.requires, c.kept_directory-directory.ensures.fewer, size, size-with_last (normal_segments path), normal_size-text path.absolute c.args.path.now)

pub returns-then-parents-clause-some : goal.returns-then-parents-clause-some
returns-then-parents-clause-some c =
    let list = normal_segments (read_path c.args.path.now) in
    let above = c.parents.ensures ∙ ap count_parents c.kept_directory-directory.ensures.items in
    let below = c.parents-2.ensures ∙ ap count_parents c.some_items-items.ensures.items ∙ parents-with_last list in
    grind (arith, nat_tests)

pub returns-clause-some : goal.returns-clause-some
returns-clause-some c =
    let list = normal_segments (read_path c.args.path.now) in
    let above = c.parents.ensures ∙ ap count_parents c.kept_directory-directory.ensures.items in
    let below = c.parents-2.ensures ∙ ap count_parents c.some_items-items.ensures.items ∙ parents-with_last list in
    grind (arith, nat_tests)

pub returns-clause-text : goal.returns-clause-text
returns-clause-text c =
    let steps = c.items_between.ensures.items ∙ (λ i. steps_with bytes_eq (c.kept_directory-directory.ensures.items i) (c.some_items-items.ensures.items i)) ∙ steps-whole bytes_eq _ (normal_segments (read_path c.args.path.now)) in
    c.of_item_steps.ensures.text ∙ ap (λ (l : List Text). spell_path (guarded alone (record { absolute = false; segments = shortened l }))) steps
