-- Laws of the lines that `iref lines` was given.
use Rattle.std.specs.Prelude.{List, [], ◌∷◌, ◌++◌, Option, Some, IfSome, map}
use Rattle.std.specs.List.{All, AllZip}
use Rattle.std.proofs.{Common.{sym, ap, ◌∙◌, append_assoc, append-nil, arith}, lemmas.Grind.{common_steps, flat_map-append}}
use Rattle.std.proofs.lemmas.List.Elements.{All-cons, All-head, All-nil, All-tail}
use Rattle.iref.specs.Rules.{Text}
use Rattle.iref_batch.specs.{Gathering.{IsLine}, Runs.{with_newline, with_newlines}}
use Rattle.iref_tool.specs.{JobRunLaws.{Gains-both}, LineRuns.{AnswersLines, IsReplyTo}, declared.lines.Lines.{Lines}}

-- what holds of all holds of the first and of the others
all_of_both : {X : Type 0} (P : X → Type 0) (xs ys : List X) → All P (xs ++ ys) → All P xs × All P ys
all_of_both P [] ys h = (All-nil P, h)
all_of_both P (x ∷ xs) ys h =
    let both = all_of_both P xs ys (All-tail P x (xs ++ ys) h) in
    (All-cons P x xs (All-head P x (xs ++ ys) h) both.0, both.1)

both_replied : (lines others : List (Option Text)) (replies more : List Text) → AllZip IsReplyTo lines replies → AllZip IsReplyTo others more → AllZip IsReplyTo (lines ++ others) (replies ++ more)
both_replied [] others [] more f g = g
both_replied [] others (reply ∷ replies) more f g = absurd f
both_replied (line ∷ lines) others [] more f g = absurd f
both_replied (line ∷ lines) others (reply ∷ replies) more f g = (f.0, both_replied lines others replies more f.1 g)

module _ {W E : Type 0} (contents : W → Option Text) where
  -- no line came in
  pub AnswersLines-nothing : (s : Lines W E) → AnswersLines contents s [] s
  AnswersLines-nothing s l asked asks = record {
    answered = [];
    replies = [];
    waiting = asked;
    division = append-nil (map (λ line. Some line) asked);
    asks = asks;
    are_replies = tt;
    gains = λ xs e. ([], grind (arith, common_steps), grind (arith, common_steps));
  }

  -- lines came in, and then others
  pub AnswersLines-both : (old mid new : Lines W E) (lines others : List (Option Text)) → AnswersLines contents old lines mid → AnswersLines contents mid others new → AnswersLines contents old (lines ++ others) new
  AnswersLines-both old mid new lines others f g l asked asks =
      let both = all_of_both (λ line. IfSome line IsLine) lines others l in
      let p = f both.0 asked asks in
      let q = g both.1 p.waiting p.asks in
      let waiting = map (λ line. Some line) p.waiting in
      record {
        answered = p.answered ++ q.answered;
        replies = p.replies ++ q.replies;
        waiting = q.waiting;
        division =
            sym (append_assoc (map (λ line. Some line) asked) lines others) ∙ ap (λ l. l ++ others) p.division
            ∙ append_assoc p.answered waiting others ∙ ap (λ l. p.answered ++ l) q.division
            ∙ sym (append_assoc p.answered q.answered (map (λ line. Some line) q.waiting));
        asks = q.asks;
        are_replies = both_replied p.answered q.answered p.replies q.replies p.are_replies q.are_replies;
        gains = rw (flat_map-append with_newline p.replies q.replies)
            (Gains-both (with_newlines p.replies) (with_newlines q.replies) _ _ _ old.answers.items mid.answers.items new.answers.items p.gains q.gains);
      }
