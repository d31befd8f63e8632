-- What stands written where a run ends.
use Rattle.std.proofs.lemmas.List.{flat_map_more}
use Rattle.std.proofs.Common.{arith, ◌≡◌, ◌≤◌, ◌-◌, ◌^◌, length, inl, Bool, false, List, [], ◌∷◌, ◌++◌, Option, Some, refl, map}
use Rattle.std.proofs.{lemmas.Grind.{common_steps}, lemmas.List.Concat.{flat_map-append}}
use Rattle.std.proofs.lemmas.List.Elements.{AllZip-push}
use Rattle.std.specs.List.{AllZip}
use Rattle.iref.specs.{Rules.{Text}, Texts.{is_empty}}
use Rattle.iref_batch.specs.{Lines.{newline, lines_of}, declared.lines.Lines.{Lines}}
use Rattle.iref_batch.specs.Runs.{IsReply, line_reply, with_newline, with_newlines, AnswersAll, AnswersBegun, EndsEarly}
use Rattle.iref_batch.specs.Gathering.{IsLine, IsNothing, Holds, Writes, WritesPart, RepliesPart, InRun, BreaksOff}
use Rattle.iref_batch.proofs.OutputLemmas.{lines_of-cut}
use Rattle.iref_batch.proofs.SeenLemmas.{ended_lines_of_seen, lines_of_all_seen, lines_of_line, lines_of_more, lines_of_seen, no_byte}

pub answers : List Text → List Text
answers lines = map (λ line. line_reply line) lines

pub answers-are_replies : (lines : List Text) → AllZip IsReply lines (answers lines)
unfolding answers
answers-are_replies [] = tt
answers-are_replies (line ∷ lines) = (inl refl, answers-are_replies lines)

all_zip-append : (lines others replies more : List Text) → AllZip IsReply lines replies → AllZip IsReply others more → AllZip IsReply (lines ++ others) (replies ++ more)
all_zip-append [] others [] more f g = g
all_zip-append [] others (reply ∷ replies) more f g = absurd f
all_zip-append (line ∷ lines) others replies more f g = grind (arith, λ (replies : List Text). all_zip-append lines others replies more)

-- the lines that are not answered could have been
begun_with : (text before : Text) (contents : Option Text) (lines others replies : List Text) (out lost : Text) → lines_of text ≡ lines ++ others → AllZip IsReply lines replies → with_newlines replies ≡ out ++ lost → contents ≡ Some (before ++ out) → AnswersBegun text before contents
begun_with text before contents lines others replies out lost e a d w = record {
  replies = replies ++ answers others;
  out = out;
  lost = lost ++ with_newlines (answers others);
  answered = rw e (all_zip-append lines others replies (answers others) a (answers-are_replies others));
  division = grind (arith, common_steps, flat_map-append);
  written = w;
}

-- a write fails while a line is answered
pub breaks_at_line : (tail others : Text) (old new : Option Text) (lines : Lines) → IsLine tail → ((line : Text) → Holds lines.begun line → RepliesPart (line ++ tail) old new lines.gathered.bytes.items) → BreaksOff (tail ++ newline ∷ others) old new lines
breaks_at_line tail others old new lines l f seen before s =
    let line = s.seen_as.line in
    let r = f line s.seen_as.kept in
    let q = r.2 (before ++ s.out) s.known in
    begun_with _ before new (s.ended ++ (line ++ tail) ∷ []) (lines_of others) (s.replies ++ r.0 ∷ []) (s.out ++ q.0) q.1
    (lines_of_line seen s.ended lines.begun s.seen_as tail others l)
    (AllZip-push IsReply s.ended s.replies (line ++ tail) r.0 s.answered r.1)
    (grind (arith, common_steps, flat_map_more)) (grind (arith, common_steps))

-- a write fails while replies are written
pub breaks_at_flush : (others : Text) (old new : Option Text) (lines : Lines) → WritesPart lines.gathered.bytes.items old new → BreaksOff others old new lines
breaks_at_flush others old new lines f seen before s =
    let q = f (before ++ s.out) s.known in
    begun_with _ before new s.ended (lines_of (s.seen_as.line ++ others)) s.replies (s.out ++ q.0) q.1
    (lines_of_more seen s.ended lines.begun s.seen_as others) s.answered (grind (arith, common_steps)) (grind (arith, common_steps))

-- a newline after a last line that is not empty changes no line
pub last_line : (seen before : Text) (contents : Option Text) (lines : Lines) → (lines.begun.is_refused ≡ false → is_empty lines.begun.bytes.items ≡ false) → InRun seen before contents lines → lines_of (seen ++ newline ∷ []) ≡ lines_of seen
last_line seen before contents lines f s =
    grind (arith, common_steps, lines_of_line seen s.ended lines.begun s.seen_as [] [] no_byte, lines_of_all_seen seen s.ended lines.begun s.seen_as f)

pub begun_same : (text same before : Text) (contents : Option Text) → lines_of text ≡ lines_of same → AnswersBegun text before contents → AnswersBegun same before contents
begun_same text same before contents e a = grind arith

pub all_same : (text same before : Text) (contents : Option Text) → lines_of text ≡ lines_of same → AnswersAll text before contents → AnswersAll same before contents
all_same text same before contents e a = grind arith

-- the replies gathered are written, and no line is begun
pub all_answered : (seen before : Text) (old new : Option Text) (lines : Lines) → IsNothing lines.begun → Writes lines.gathered.bytes.items old new → InRun seen before old lines → AnswersAll seen before new
all_answered seen before old new lines n w s = record {
  replies = s.replies;
  answered = rw (lines_of_seen seen s.ended lines.begun s.seen_as n) s.answered;
  written = grind (arith, common_steps, w (before ++ s.out) s.known);
}

pub ended_answered : (input seen left before : Text) (reader_failed : Bool) (remaining contents : Option Text) (lines : Lines) → (reader_failed ≡ false → 2 ^ 64 - 1 ≤ length seen) → lines.gathered.bytes.items ≡ [] → input ≡ seen ++ left → remaining ≡ Some left → InRun seen before contents lines → EndsEarly input before reader_failed remaining contents
ended_answered input seen left before reader_failed remaining contents lines many g d r s =
    grind (arith, common_steps, ended_lines_of_seen seen s.ended lines.begun s.seen_as)

-- the replies to two inputs, of which the first ends where a line ends, are those to both as one
pub joined : (first second out more : Text) → AnswersAll (with_newline first) [] (Some out) → AnswersAll second [] (Some more) → AnswersAll (with_newline first ++ second) [] (Some (out ++ more))
joined first second out more f s = record {
  replies = f.replies ++ s.replies;
  answered = rw (lines_of-cut first second) (all_zip-append (lines_of (with_newline first)) (lines_of second) f.replies s.replies f.answered s.answered);
  written = grind (arith, common_steps, flat_map-append);
}
