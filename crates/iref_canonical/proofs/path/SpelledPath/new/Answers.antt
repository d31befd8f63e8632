use Rattle.std.proofs.{Common.{[], arith}, lemmas.List.{length-map}}
use Rattle.percent_encoding.specs.Percent.{percent_decode}
use Rattle.iref_grammar.specs.PathValue.{read_path}
use Rattle.iref_path.specs.NormalItems.{decoded_left, first_or, normal_left}
use Rattle.iref_path.proofs.SpellLemmas.{read_size}
use Rattle.iref_canonical.specs.SpelledItems.{spelled_path_text}
use Rattle.iref_canonical.proofs.{ShapeLemmas.{AreLike, first-decoded, path-spelled}, SpelledItemLemmas.{standing-few}}
use Rattle.iref_canonical.proofs.path.SpelledPath.new.Goals as goal

pub survey_items-all-requires : goal.survey_items-all-requires
survey_items-all-requires c = omega (arith, read_size c.args.path.now _ c.split_root-absolute.ensures.path)

pub returns-clause-text : goal.returns-clause-text
unfolding spelled_path_text
returns-clause-text c = λ raw.
    let list = decoded_left c.survey_items-all.result.items in
    let first = first-decoded (normal_left c.survey_items-all.result.items) in
    let like : AreLike c.sample.result.now (first_or [] list) = record { empty = grind arith; marked = grind arith } in
    let spelled = path-spelled raw c.args.context (read_path c.args.path.now) list c.len-count.result c.count_standing_in-standing.result c.sample.result.now in
    grind (arith, like, spelled, length-map (normal_left c.survey_items-all.result.items) percent_decode)

pub returns-clause-counted : goal.returns-clause-counted
returns-clause-counted c =
    let few = standing-few (decoded_left c.survey_items-all.result.items) in
    let len = length-map (normal_left c.survey_items-all.result.items) percent_decode in
    record { sound = c.survey_items-all.ensures.sound; count = c.len-count.ensures; standing = grind (arith, few, len) }
