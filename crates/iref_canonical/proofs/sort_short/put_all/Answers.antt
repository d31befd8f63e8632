use Rattle.std.proofs.Common.{arith, ◌∙◌, ap, drop, length, length-append, refl}
use Rattle.std.proofs.lemmas.List.{drop_at}
use Rattle.iref_grammar.specs.PathValue.{read_path}
use Rattle.iref_canonical.specs.{Padded.{text_in}, SortKey.{sort_path}, SortPuts.{spelled_tail}}
use Rattle.iref_canonical.proofs.SortCutLemmas.{path_begins, path_left}
use Rattle.iref_canonical.proofs.sort_short.put_all.Goals as goal

pub part-requires-clause-begins : goal.part-requires-clause-begins
part-requires-clause-begins c =
    path_begins c.args.slices (text_in c.skip-rest-2.result)
    (path_left c.args.slices (text_in c.args.text) _ _ _ _ c.requires.spelled c.marked_len.ensures c.skip-rest.ensures.text c.marked_len-2.ensures c.skip-rest-2.ensures.text)

pub put_tail-requires-clause-spelled : goal.put_tail-requires-clause-spelled
put_tail-requires-clause-spelled c =
    let s = c.args.slices in
    let left = path_left s (text_in c.args.text) _ _ _ _ c.requires.spelled c.marked_len.ensures c.skip-rest.ensures.text c.marked_len-2.ensures c.skip-rest-2.ensures.text in
    c.skip.ensures.text ∙ ap (drop (length s.path.now)) left ∙ drop_at s.path.now (spelled_tail s) (length s.path.now) refl

pub put_tail-requires-clause-room : goal.put_tail-requires-clause-room
put_tail-requires-clause-room c =
    let path = ap (λ t. length (sort_path (read_path t))) c.part.ensures.text in
    grind (arith, length-append)
