use Rattle.std.proofs.Common.{◌≡◌, ◌∙◌, true, false, ap, arith, length, List, sym}
use Rattle.iref_grammar.specs.{Rules.{Text}, Contexts.{alone}, PathValue.{spell_path}}
use Rattle.iref_grammar.specs.{Guard.{guarded}, Relativized.{is_climb}}
use Rattle.iref_path.specs.{NormalItems.{normal_left}, Spelling.{each_closed}}
use Rattle.iref_path.proofs.{StepsBetweenLemmas.{front-take, size-front}, TextStepLemmas.{shortened-climb}}
use Rattle.iref_path.proofs.relativized.of_item_steps.Goals as goal

pub relative-requires-clause-room : goal.relative-requires-clause-room
relative-requires-clause-room c = omega (arith, ap (λ l. length (each_closed l)) c.without_last.ensures.items, size-front (normal_left c.args.items), c.requires.room)

pub returns-then-is_climb-clause-text : goal.returns-then-is_climb-clause-text
returns-then-is_climb-clause-text c =
    let list = normal_left c.args.items in
    let climb : is_climb list ≡ true = grind arith in
    c.relative.ensures.text
    ∙ ap (λ (l : List Text). spell_path (guarded alone (record { absolute = false; segments = l }))) (c.without_last.ensures.items ∙ front-take list ∙ sym (shortened-climb list climb))
