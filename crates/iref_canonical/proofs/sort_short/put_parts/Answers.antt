use Rattle.std.proofs.Common.{arith, ◌∙◌, ap, length, length-append, sym}
use Rattle.iref_grammar.specs.Authority.{AuthorityValue}
use Rattle.iref_parse.specs.AuthoritySlices.{authority_of}
use Rattle.iref_canonical.specs.{SortBytes.{are_kept_parts}, SortKey.{sort_authority}}
use Rattle.iref_canonical.proofs.{SortCutLemmas.{authority_is}, SortPutLemmas.{both_put, joined_put, parts_size}}
use Rattle.iref_canonical.proofs.sort_short.put_parts.Goals as goal

pub put_text-at-requires : goal.put_text-at-requires
put_text-at-requires c =
    let is = c.split_parts-parts.ensures in
    let size = sym (ap (λ (a : AuthorityValue). length (sort_authority a)) is) ∙ parts_size (authority_of c.split_parts-parts.result) (ap are_kept_parts is ∙ c.requires.kept) in
    omega arith

pub put_text_option-requires-clause-room : goal.put_text_option-requires-clause-room
put_text_option-requires-clause-room c =
    let is = c.split_parts-parts.ensures in
    let size = sym (ap (λ (a : AuthorityValue). length (sort_authority a)) is) ∙ parts_size (authority_of c.split_parts-parts.result) (ap are_kept_parts is ∙ c.requires.kept) in
    grind (arith, length-append)

pub returns : goal.returns
returns c =
    let is = c.split_parts-parts.ensures in
    joined_put _ _ _ c.put_text_option-at.ensures (both_put _ _ c.put_text-at.ensures c.put_text_option.ensures)
    (sym (ap sort_authority is) ∙ authority_is (authority_of c.split_parts-parts.result) (ap are_kept_parts is ∙ c.requires.kept))
