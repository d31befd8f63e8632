use Rattle.std.proofs.{Common.{◌≡◌, ◌∙◌, rules}, lemmas.Bool.Decides.{same_from_decides}}
use Rattle.iref.proofs.{TieLemmas.{references_tie}, PartTieLemmas.{lower_case_tie, parts_tie}}
use Rattle.iref.specs.{Components.{text_of}, Parts.{uri_ref_parts_value}}
use Rattle.iref_batch.proofs.AnswerLemmas.{no_left_answer, no_right_answer, same_answer, equal_answer}
use Rattle.iref_batch.proofs.answers.put_answer_to_equal.Goals as goal

pub returns-in_default : goal.returns-in_default
returns-in_default c =
    let left = c.args.left.now in
    rw (no_left_answer left c.args.right.now c.in_default.ensures.parsed.0) c.put_text.ensures

pub returns-then-eq : goal.returns-then-eq
returns-then-eq c =
    let same : c.args.left.now ≡ c.args.right.now = search rules in
    rw (same_answer c.args.left.now c.args.right.now same c.in-Ok.ensures.parsed.0) c.put_text-then-eq.ensures

pub returns-in_default-from_bytes : goal.returns-in_default-from_bytes
returns-in_default-from_bytes c =
    let right = c.args.right.now in
    rw (no_right_answer c.args.left.now right c.in_default-from_bytes.ensures.parsed.0) c.put_text-in_default-from_bytes.ensures

pub returns : goal.returns
returns c =
    let left = c.args.left.now in
    let right = c.args.right.now in
    let a = c.in-Ok.left_parts in
    let b = c.in-Ok-from_bytes.right_parts in
    let keys = parts_tie text_of text_of text_of _ _ _ (lower_case_tie text_of a.scheme b.scheme) a.authority b.authority (text_of a.path) (text_of b.path) a.query b.query a.fragment b.fragment in
    let equal = c.eq-2.ensures ∙ same_from_decides _ _ keys (references_tie _ _) in
    rw (
      equal_answer left right (uri_ref_parts_value a) (uri_ref_parts_value b) c.eq-2.result
          c.in-Ok.ensures.parsed.0 c.in-Ok-from_bytes.ensures.parsed.0
          c.in-Ok.ensures.value c.in-Ok-from_bytes.ensures.value equal,
      ← c.equality.ensures,
    ) c.put_text-2.ensures
