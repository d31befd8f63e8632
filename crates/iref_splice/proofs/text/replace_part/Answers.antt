use Rattle.std.proofs.Common.{ap, length}
use Rattle.std.specs.String.{string_bytes}
use Rattle.iref_splice.specs.Changes.{pieces}
use Rattle.iref_splice.proofs.PartLemmas.{part_end, part_put, part_within}
use Rattle.iref_splice.proofs.text.replace_part.Goals as goal

pub replace-requires : goal.replace-requires
replace-requires c = part_within (string_bytes c.args.text.now) c.args.at c.requires.part c.args.by.within c.requires.within

pub overflow_sub-result : goal.overflow_sub-result
overflow_sub-result c =
    let part = c.requires.part in
    let put = part_put (string_bytes c.args.text.now) _ (pieces c.args.by) c.args.at.start c.args.at.end _ _ part.start_le_end part.end.0 c.requires.within.start_le_end c.requires.within.end.0 c.in_ok-replace.ensures.ok in
    (part_end _ _ _ c.args.at.start c.args.at.end _ _ part.start_le_end part.end.0 (ap length c.as_str.ensures.value) (ap length c.as_str-2.ensures.value) put).0

pub returns-clause-text : goal.returns-clause-text
returns-clause-text c =
    let part = c.requires.part in
    part_put (string_bytes c.args.text.now) _ (pieces c.args.by) c.args.at.start c.args.at.end _ _ part.start_le_end part.end.0 c.requires.within.start_le_end c.requires.within.end.0 c.in_ok-replace.ensures.ok

pub returns-clause-end : goal.returns-clause-end
returns-clause-end c =
    let part = c.requires.part in
    let put = part_put (string_bytes c.args.text.now) _ (pieces c.args.by) c.args.at.start c.args.at.end _ _ part.start_le_end part.end.0 c.requires.within.start_le_end c.requires.within.end.0 c.in_ok-replace.ensures.ok in
    (part_end _ _ _ c.args.at.start c.args.at.end _ _ part.start_le_end part.end.0 (ap length c.as_str.ensures.value) (ap length c.as_str-2.ensures.value) put).1
