use Rattle.std.proofs.Common.{◌≡◌, ◌∙◌, true, false, ap, arith, length, List}
use Rattle.iref_grammar.specs.{Rules.{Text}, Texts.{all_but_last}, Contexts.{alone}, PathValue.{read_path, spell_path}}
use Rattle.iref_grammar.specs.{Guard.{guarded}, NormalList.{normal_segments}, Relativized.{is_climb}}
use Rattle.iref_path.specs.{NormalItems.{normal_left}, Spelling.{each_closed}}
use Rattle.iref_path.proofs.{SpellLemmas.{normal_size-text}, StepsBetweenLemmas.{front-take, size-front}}
use Rattle.iref_path.proofs.TextStepLemmas.{climb_unguarded}
use Rattle.iref_path.proofs.measured.MeasuredPath.climb.Goals as goal

pub relative-requires-clause-room : goal.relative-requires-clause-room
relative-requires-clause-room c =
    let path = read_path c.args.path.now in
    omega (
      arith,
      c.requires,
      ap (λ l. length (each_closed l)) c.without_last.ensures.items,
      size-front (normal_left c.new-items.result),
      ap (λ l. length (each_closed l)) c.new-items.ensures.items,
      normal_size-text path.absolute c.args.path.now,
    )

pub returns-then-is_climb-clause-text : goal.returns-then-is_climb-clause-text
returns-then-is_climb-clause-text c =
    let list = normal_segments (read_path c.args.path.now) in
    let climb : is_climb list ≡ true = grind arith in
    let front = c.without_last.ensures.items ∙ front-take (normal_left c.new-items.result) in
    c.relative.ensures.text
    ∙ ap (λ (l : List Text). spell_path (guarded alone (record { absolute = false; segments = l }))) front
    ∙ ap (λ (l : List Text). spell_path (guarded alone (record { absolute = false; segments = all_but_last l }))) c.new-items.ensures.items ∙ ap spell_path (climb_unguarded list climb)
