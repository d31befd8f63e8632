use Rattle.std.proofs.lemmas.Grind.{common_steps}
use Rattle.std.proofs.Common.{◌≤◌, rules, codes, length, length-append, length-take, length-drop, ◌∙◌, arith}
use Rattle.std.proofs.{lemmas.Bool.Decides.{Decides-eqb}, lemmas.Slice.Eq.{starts_is}}
use Rattle.iref_path.proofs.RewritingLemmas.{behind_root, list_in_path, root_is}
use Rattle.iref_path.proofs.WrittenLemmas.{nothing_behind, to_end}
use Rattle.iref_path.proofs.rewriting.write_over.Goals as goal

pub write_list-start-requires : goal.write_list-start-requires
write_list-start-requires c = λ relative.
    let path = c.args.path.now in
    let starts = starts_is Decides-eqb path (codes "/") c.starts_with-absolute.result c.starts_with-absolute.ensures.value in
    let same = list_in_path path c.starts_with-absolute.result c.from-root.result starts.0 starts.1 (c.from-root.ensures ∙ root_is c.starts_with-absolute.result) in
    grind (arith, root_is, length-append, length-drop, length-take)

pub write_before-requires-clause-room : goal.write_before-requires-clause-room
write_before-requires-clause-room c =
    let path = c.args.path.now in
    let starts = starts_is Decides-eqb path (codes "/") c.starts_with-absolute.result c.starts_with-absolute.ensures.value in
    let same = list_in_path path c.starts_with-absolute.result c.from-root.result starts.0 starts.1 (c.from-root.ensures ∙ root_is c.starts_with-absolute.result) in
    grind (arith, length-append, length-drop, length-take)

pub returns : goal.returns
returns c =
    let path = c.args.path.now in
    let guard = c.args.guard.now in
    let starts = starts_is Decides-eqb path (codes "/") c.starts_with-absolute.result c.starts_with-absolute.ensures.value in
    let same = list_in_path path c.starts_with-absolute.result c.from-root.result starts.0 starts.1 (c.from-root.ensures ∙ root_is c.starts_with-absolute.result) in
    let within : c.from-root.result ≤ length path = grind (arith, common_steps, root_is) in
    let behind = behind_root path c.write_list-start.new.bytes c.from-root.result c.write_list-start.result within (grind (arith, length-drop, length-take)) in
    record {
      range = grind (arith, length-append, length-drop, length-take);
      written = grind (arith, nothing_behind, to_end _ _ c.write_list-start.ensures);
      len = search rules;
    }
