use Rattle.std.proofs.{Common.{◌∙◌, sym, lit<, Some, rules}, lemmas.Str.Pattern.{split_once_first}}
use Rattle.iref_parse.proofs.GroupLemmas.{read_ninth, read_group}
use Rattle.iref_parse.proofs.ip.groups_before_last.Goals as goal

pub returns-in_err-groups : goal.returns-in_err-groups
returns-in_err-groups c =
    let parts = split_once_first 58 c.loop-piece.rest.now (Some (c.in-Some.piece, c.in-Some.after)) c.in-Some.ensures.cases (lit< tt) in
    rw c.from_residual-in_err-groups.ensures
    (λ last. c.loop-piece.invariant.same last
    ∙ read_ninth last c.loop-piece.groups.count c.loop-piece.groups.value c.loop-piece.rest.now c.in-Some.piece.now c.in-Some.after.now parts.0 parts.1 parts.2 c.in_ok-group_value.field-0 (sym c.group_value.ensures ∙ c.in_ok-group_value.was)
    c.in_err-groups.ensures)

pub loop-piece-preserved : goal.loop-piece-preserved
loop-piece-preserved c =
    let parts = split_once_first 58 c.loop-piece.rest.now (Some (c.in-Some.piece, c.in-Some.after)) c.in-Some.ensures.cases (lit< tt) in
    record {
      text = search rules;
      same = λ last. c.loop-piece.invariant.same last
          ∙ read_group last c.loop-piece.groups.count c.loop-piece.groups.value c.loop-piece.rest.now c.in-Some.piece.now c.in-Some.after.now parts.0 parts.1 parts.2 c.in_ok-group_value.field-0 (sym c.group_value.ensures ∙ c.in_ok-group_value.was)
          c.in_ok-groups.groups.count c.in_ok-groups.groups.value c.in_ok-groups.ensures.0 c.in_ok-groups.ensures.1;
    }
