-- What `iref lines` has written for a line.
use Rattle.std.proofs.Common.{◌≡◌, ℕ, true, true≢false, List, [], ◌∷◌, ◌++◌, Option, Some, None, append_assoc, append-nil, ap, map, refl, subst, sym, ◌∙◌}
use Rattle.std.proofs.{lemmas.List.{flat_map_more, map-append}, lemmas.Option.{same_Some}}
use Rattle.std.proofs.lemmas.List.Elements.{All-head, All-nil, All-push}
use Rattle.std.specs.{Io.KnownBytes.{Appends}, List.{AllZip}, Prelude.{IfSome}}
use Rattle.iref.specs.Rules.{Text}
use Rattle.iref_batch.specs.{Gathering.{Gains, IsLine, Writes}, Lines.{lines_of}, Runs.{AnswersAll, IsReply, with_newline, with_newlines}, StdStreams.{inner_of}}
use Rattle.iref_batch.proofs.{EndLemmas.{answers, answers-are_replies}, LineLemmas.{lines_of_ended}}
use Rattle.iref_batch.proofs.Writing.{gains_gathered, gains_written, writes_from_appends, writes_more}
use Rattle.iref_tool.specs.{Examples.{is_of_examples}, LineRuns.{AnswersLines, IsReplyTo, RepliesTo}, declared.lines.Lines.{Lines}}

some_byte : (front rest : Text) (b : ℕ) → front ++ b ∷ rest ≡ [] → ⊥
some_byte [] rest b e = cc e
some_byte (c ∷ front) rest b e = cc e

no_lines : (lines : List Text) → with_newlines lines ≡ [] → lines ≡ []
no_lines [] e = refl
no_lines (line ∷ lines) e = absurd (some_byte line (with_newlines lines) 10 (sym (append_assoc line (10 ∷ []) (with_newlines lines)) ∙ e))

-- any reply to a line of the examples
pub example_reply : (line reply : Text) → is_of_examples line ≡ true → IsReplyTo (Some line) reply
example_reply line reply is other = absurd (true≢false (sym is ∙ other))

asked_replied : (asked replies : List Text) → AllZip IsReply asked replies → AllZip IsReplyTo (map (λ line. Some line) asked) replies
asked_replied [] [] a = tt
asked_replied [] (reply ∷ replies) a = absurd a
asked_replied (line ∷ asked) [] a = absurd a
asked_replied (line ∷ asked) (reply ∷ replies) a = (λ _. a.0, asked_replied asked replies a.1)

module _ {W E : Type 0} (contents : W → Option Text) (old new : Lines W E) where
  -- nothing changed of what contracts speak of
  pub lines_kept : new.out ≡ old.out → new.answers.items ≡ old.answers.items → new.asked.items ≡ old.asked.items → AnswersLines contents old [] new
  lines_kept out gathered asked_same l asked asks = record {
    answered = [];
    replies = [];
    waiting = asked;
    division = append-nil (map (λ line. Some line) asked);
    asks = (asked_same ∙ asks.0, asks.1);
    are_replies = tt;
    gains = rw out (gains_gathered [] (contents (inner_of old.out)) old.answers.items new.answers.items (gathered ∙ sym (append-nil old.answers.items)));
  }

  -- no line waited, and what was gathered is written
  pub answers_settled : old.asked.items ≡ [] → new.asked.items ≡ [] → new.answers.items ≡ [] → Writes old.answers.items (contents (inner_of old.out)) (contents (inner_of new.out)) → AnswersLines contents old [] new
  answers_settled none none_then gathered written l asked asks = record {
    answered = [];
    replies = [];
    waiting = [];
    division = append-nil (map (λ line. Some line) asked) ∙ ap (map (λ line. Some line)) (no_lines asked (sym asks.0 ∙ none));
    asks = (none_then, All-nil IsLine);
    are_replies = tt;
    gains = gains_written [] (contents (inner_of old.out)) (contents (inner_of new.out)) old.answers.items new.answers.items gathered (rw append-nil written);
  }

  -- what was gathered is written, and then the replies to all lines that waited
  pub lines_settled : (mid : Option Text) → Writes old.answers.items (contents (inner_of old.out)) mid → ((before : Text) → mid ≡ Some before → AnswersAll old.asked.items before (contents (inner_of new.out))) → new.asked.items ≡ [] → new.answers.items ≡ []
      → AnswersLines contents old [] new
  lines_settled mid written ran none gathered l asked asks = by (contents (inner_of old.out)) refl
    where
      a : Option Text
      a = contents (inner_of old.out)

      b : Option Text
      b = contents (inner_of new.out)

      replied : (replies : List Text) → AllZip IsReply asked replies → Writes (old.answers.items ++ with_newlines replies) a b → RepliesTo contents asked old [] new
      replied replies are_replies written = record {
        answered = map (λ line. Some line) asked;
        replies = replies;
        waiting = [];
        division = refl;
        asks = (none, All-nil IsLine);
        are_replies = asked_replied asked replies are_replies;
        gains = gains_written (with_newlines replies) a b old.answers.items new.answers.items gathered written;
      }

      all_asked : lines_of old.asked.items ≡ asked
      all_asked = ap lines_of (asks.0 ∙ sym (append-nil (with_newlines asked))) ∙ lines_of_ended asked asks.1

      by : (known : Option Text) → a ≡ known → RepliesTo contents asked old [] new
      by None e = replied (answers asked) (answers-are_replies asked) (λ xs f. absurd (cc (sym e ∙ f)))
      by (Some before) e =
          let done = ran (before ++ old.answers.items) (written before e) in
          replied done.replies (rw all_asked at done.answered)
          (λ xs f. subst (λ front. b ≡ Some (front ++ (old.answers.items ++ with_newlines done.replies))) (same_Some before xs (sym e ∙ f))
          (done.written ∙ ap (λ t. Some t) (append_assoc before old.answers.items (with_newlines done.replies))))

  -- the line waits
  pub line_waits : (line : Text) → new.out ≡ old.out → new.answers.items ≡ old.answers.items → new.asked.items ≡ (old.asked.items ++ line) ++ 10 ∷ [] → AnswersLines contents old (Some line ∷ []) new
  line_waits line out gathered asked_more l asked asks = record {
    answered = [];
    replies = [];
    waiting = asked ++ line ∷ [];
    division = sym (map-append (λ line. Some line) asked (line ∷ []));
    asks = (
      asked_more ∙ append_assoc old.asked.items line (10 ∷ []) ∙ ap (λ t. t ++ with_newline line) asks.0 ∙ flat_map_more (λ text. with_newline text) [] asked line,
      All-push IsLine asked line asks.1 (All-head (λ line. IfSome line IsLine) (Some line) [] l),
    );
    are_replies = tt;
    gains = rw out (gains_gathered [] (contents (inner_of old.out)) old.answers.items new.answers.items (gathered ∙ sym (append-nil old.answers.items)));
  }

  -- where no line waits, a reply is added
  module _ (none : old.asked.items ≡ []) (none_then : new.asked.items ≡ []) (line : Option Text) (reply : Text) (is : IsReplyTo line reply) where
    line_replied : ((text : Text) → with_newlines (reply ∷ []) ≡ text → Gains text (contents (inner_of old.out)) (contents (inner_of new.out)) old.answers.items new.answers.items) → AnswersLines contents old (line ∷ []) new
    line_replied gains l asked asks = record {
      answered = line ∷ [];
      replies = reply ∷ [];
      waiting = [];
      division = ap (λ asked. map (λ line. Some line) asked ++ line ∷ []) (no_lines asked (sym asks.0 ∙ none));
      asks = (none_then, All-nil IsLine);
      are_replies = (is, tt);
      gains = gains (with_newlines (reply ∷ [])) refl;
    }

    -- among those gathered
    pub reply_gathered : new.out ≡ old.out → new.answers.items ≡ (old.answers.items ++ reply) ++ 10 ∷ [] → AnswersLines contents old (line ∷ []) new
    reply_gathered out gathered = line_replied (λ text e. rw out (gains_gathered text (contents (inner_of old.out)) old.answers.items new.answers.items (gathered ∙ append_assoc old.answers.items reply (10 ∷ []) ∙ ap (λ t. old.answers.items ++ t) (sym (append-nil (with_newline reply)) ∙ e))))

    -- written at once, where nothing is gathered
    pub reply_written : (mid : Option Text) → old.answers.items ≡ [] → new.answers.items ≡ [] → Appends (contents (inner_of old.out)) mid reply → Appends mid (contents (inner_of new.out)) (10 ∷ []) → AnswersLines contents old (line ∷ []) new
    reply_written mid gathered gathered_then f g = line_replied (λ text e.
        let a = contents (inner_of old.out) in
        let b = contents (inner_of new.out) in
        let written : Writes (with_newline reply) a b = writes_more reply (10 ∷ []) a mid b (writes_from_appends reply a mid f) (writes_from_appends (10 ∷ []) mid b g) in
        gains_written text a b old.answers.items new.answers.items gathered_then
        (subst (λ t. Writes t a b) (sym (append-nil (with_newline reply)) ∙ e ∙ ap (λ t. t ++ text) (sym gathered)) written))
