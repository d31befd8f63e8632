use Rattle.std.proofs.Common.{arith, ap, length, ◌-◌}
use Rattle.iref_grammar.specs.PathValue.{read_path}
use Rattle.iref_path.specs.{NormalItems.{normal_left}, Spelling.{each_closed}}
use Rattle.iref_path.proofs.{SpellLemmas.{normal_size-text}, SuffixLemmas.{size-drop}}
use Rattle.iref_path.proofs.suffix.rest_after.Goals as goal

pub returns-clause-room : goal.returns-clause-room
returns-clause-room c =
    let list = normal_left c.new-items.result in
    omega (
      arith,
      ap (λ l. length (each_closed l)) c.last_after.ensures.items,
      ap (λ l. length (each_closed l)) c.new-items.ensures.items,
      size-drop (length list - (c.len.result - c.len-len.result)) list,
      normal_size-text (read_path c.args.path.now).absolute c.args.path.now,
    )
