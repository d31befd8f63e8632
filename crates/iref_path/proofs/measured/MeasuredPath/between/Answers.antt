use Rattle.std.proofs.Common.{◌∙◌, ap, arith, length}
use Rattle.iref_grammar.specs.PathValue.{read_path}
use Rattle.iref_grammar.specs.{NormalList.{normal_segments}, PathSuffix.{same_decoded}}
use Rattle.iref_path.specs.{Spelling.{each_closed}, StepsBetween.{steps_with}}
use Rattle.iref_path.proofs.{RelativeStepLemmas.{up_length}, SpellLemmas.{normal_size-text}}
use Rattle.iref_path.proofs.StepsBetweenLemmas.{size-with_last, steps-whole}
use Rattle.iref_path.proofs.measured.MeasuredPath.between.Goals as goal

pub items_between-requires-clause-room : goal.items_between-requires-clause-room
items_between-requires-clause-room c =
    let path = read_path c.args.path.now in
    let size = ap (λ l. length (each_closed l)) c.some_items.ensures.items in
    omega (arith, c.requires, c.kept_directory-directory.ensures.fewer, size, size-with_last (normal_segments path), normal_size-text path.absolute c.args.path.now)

pub up-requires : goal.up-requires
up-requires c = omega (arith, up_length c.steps_apart-up.result.0 c.steps_apart-up.result.1.now, c.in-Some.ensures)

pub returns : goal.returns
returns c =
    let steps = c.items_between.ensures.items ∙ (λ i. steps_with same_decoded (c.kept_directory-directory.ensures.items i) (c.some_items.ensures.items i)) ∙ steps-whole same_decoded _ (normal_segments (read_path c.args.path.now)) in
    grind arith
