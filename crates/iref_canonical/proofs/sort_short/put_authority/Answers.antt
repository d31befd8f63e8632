use Rattle.std.proofs.{Common.{arith, ◌∙◌, ap, length, sym}, lemmas.Bool.Decides.{nat_tests}}
use Rattle.iref_grammar.specs.Authority.{read_authority}
use Rattle.iref_canonical.specs.{SortBytes.{are_kept_parts}, SortKey.{sort_authority}}
use Rattle.iref_canonical.proofs.{SortCutLemmas.{lone_sorted, within_block}, SortPutLemmas.{ends_put}}
use Rattle.iref_canonical.proofs.sort_short.put_authority.Goals as goal

pub returns : goal.returns
returns c =
    let text = c.args.text.now in
    let stored = c.store_block.ensures (length text) (grind (arith, within_block)) in
    let kept = ap (λ t. are_kept_parts (read_authority t)) c.requires.begins ∙ c.requires.kept in
    let alone = lone_sorted (length text) c.args.block.now (grind (arith, nat_tests)) kept in
    ends_put _ _ _ _ _ c.put-at.ensures stored c.put-at-2.ensures c.put.ensures (ap (λ t. sort_authority (read_authority t)) (sym c.requires.begins) ∙ alone)
