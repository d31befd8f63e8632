use Rattle.std.proofs.Common.{◌≡◌, ◌+◌, ◌∷◌, [], length, ap, ◌∙◌}
use Rattle.std.specs.Option.{option_or}
use Rattle.iref_grammar.specs.{Grammar.{hash_sign, question_mark}, Texts.{before, after}, Reference.{hierarchy}}
use Rattle.iref_fault.specs.{Places.{Query, Fragment}, Cut.{piece_if}, CutSteps.{hierarchy_pieces}}
use Rattle.iref_fault.specs.BytePlaces.{first_place}
use Rattle.iref_fault.proofs.HierarchyPlaceLemmas.{place_in_parts}
use Rattle.iref_fault.proofs.pieces.place_in_reference.Goals as goal

pub returns : goal.returns
returns g c =
    let set = g.C.CharSet.tests in
    let text = c.args.text.now in
    let body = before (hash_sign ∷ []) text in
    let first : c.cut-2.result.0.now ≡ hierarchy text = c.cut-2.ensures.before ∙ ap (before (question_mark ∷ [])) c.cut.ensures.before in
    let in_front = c.place_in_hierarchy.ensures ∙ ap (λ t. first_place set (hierarchy_pieces t)) first in
    let in_query =
    c.place_if-query_place.ensures
    ∙ ap (λ o. first_place set (piece_if Query (length c.cut-2.result.0.now + 1) o)) (c.cut-2.ensures.after ∙ ap (after question_mark) c.cut.ensures.before)
    ∙ ap (λ t. first_place set (piece_if Query (length t + 1) (after question_mark body))) first in
    let in_fragment =
    c.place_if.ensures
    ∙ ap (λ o. first_place set (piece_if Fragment (length c.cut.result.0.now + 1) o)) c.cut.ensures.after
    ∙ ap (λ t. first_place set (piece_if Fragment (length t + 1) (after hash_sign text))) c.cut.ensures.before in
    c.or-2.ensures ∙ ap (λ o. option_or o c.place_if.result) c.or.ensures
    ∙ (λ i. option_or (option_or (in_front i) (in_query i)) (in_fragment i))
    ∙ place_in_parts set text
