use Rattle.std.proofs.Common.{◌≡◌, ◌++◌, ◌∷◌, [], true, take, arith, codes, is_some}
use Rattle.iref_grammar.specs.{Grammar.{colon, hash_sign, question_mark}, Texts.{part_then, then_part}}
use Rattle.iref_grammar.proofs.{ComponentLemmas.{is_some-copied}, ReferenceCutLemmas.{read_reference-spelled}}
use Rattle.iref_parse.specs.ReferenceSlices.{texts_of}
use Rattle.iref_reference_text.proofs.FrontLemmas.{around_spelled, before_path, behind_path, front_components, front_length, front_spells, path_first}
use Rattle.iref_reference_text.proofs.RowLemmas.{path_alone}
use Rattle.iref_reference_text.proofs.after_authority.resolved_after_authority.Goals as goal

pub split_at-requires : goal.split_at-requires
split_at-requires g c =
    let t = texts_of c.args.reference in
    let alone = path_alone t c.of-row.result c.of-row.ensures (grind arith) in
    grind (arith, path_first t alone.none, read_reference-spelled c.args.text.now)

pub overflow_sub-path : goal.overflow_sub-path
overflow_sub-path g c = grind (arith, front_length (texts_of c.args.base) c.args.reference.path.now c.in-Some.front.now c.in-Some.ensures)

pub returns-in-Some : goal.returns-in-Some
returns-in-Some g c =
    let b = texts_of c.args.base in
    let t = texts_of c.args.reference in
    let alone = path_alone t c.of-row.result c.of-row.ensures (grind arith) in
    let front = c.in-Some.front.now in
    record {
      text = grind (arith, read_reference-spelled c.args.text.now, front_spells b t alone.none alone.some front c.in-Some.ensures);
      lengths = grind (arith, front_length b t.path front c.in-Some.ensures, front_components b t alone.none alone.some front c.in-Some.ensures);
    }

pub returns-in-Ok : goal.returns-in-Ok
returns-in-Ok g c =
    let b = texts_of c.args.base in
    let t = texts_of c.args.reference in
    let alone = path_alone t c.of-row.result c.of-row.ensures (grind arith) in
    let authority : is_some b.authority ≡ true = grind (arith, is_some-copied) in
    let front : take c.path_start-start.result c.as_bytes.result.now ≡ part_then (colon ∷ []) b.scheme ++ then_part (codes "//") b.authority =
    grind (arith, before_path b, read_reference-spelled c.args.base_text.now) in
    let behind : c.split_at.result.1.now ≡ then_part (question_mark ∷ []) t.query ++ then_part (hash_sign ∷ []) t.fragment =
    grind (arith, behind_path t alone.none, read_reference-spelled c.args.text.now) in
    let spelled = around_spelled b t authority alone.none alone.some _ _ c.in-Ok.bytes.items c.in-Ok.path front behind c.in-Ok.ensures in
    record { text = spelled.text; lengths = grind (arith, spelled.lengths) }
