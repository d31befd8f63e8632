use Rattle.std.proofs.Common.{◌≡◌, ◌++◌, Ok, Err, Result, ap, append_assoc, refl, rules, ◌∙◌, OnErr, OnOk, codes}
use Rattle.iref.specs.{Rules.{Text}, Components.{text_of}}
use Rattle.iref_batch.specs.Gathering.{Puts}
use Rattle.iref_batch.proofs.AnswerLemmas.{normal_answer, no_normal_answer}
use Rattle.iref_batch.proofs.answers.put_answer_to_normal.Goals as goal

-- one text, and then another behind it
put_behind : {E : Type 0} (head text old mid new : Text) (result : Result (Unit {0}) E) → mid ≡ old ++ head → OnOk result (new ≡ mid ++ text) → OnErr result (new ≡ mid)
    → Puts (head ++ text) old new result
put_behind head text old mid new (Ok x) put ok err = (ok ∙ ap (λ before. before ++ text) put ∙ append_assoc old head text, search rules)
put_behind head text old mid new (Err x) put ok err = (search rules, (head, err ∙ put))

pub returns-in_default : goal.returns-in_default
returns-in_default c =
    let text = c.args.text.now in
    rw (no_normal_answer text c.in_default.ensures.0) c.put_text.ensures

pub returns : goal.returns
returns c =
    let text = c.args.text.now in
    let put = c.in_ok-put_text.ensures.0 in
    rw (normal_answer text (text_of c.in-Ok.path) _ c.in-Ok.ensures.0 c.in-Ok.ensures.1 refl)
    (put_behind (codes "ok\t") _ _ _ _ c.append_normalized_to.result put c.append_normalized_to.ensures.ok c.append_normalized_to.ensures.err)
