-- What `iref lines` has written for the lines that it was given.
use Rattle.std.specs.Prelude.{◌≡◌, false, List, ◌++◌, Option, None, Some, IfSome, map}
use Rattle.std.specs.List.{All, AllZip}
use Rattle.iref.specs.Rules.{Text}
use Rattle.iref_batch.specs.{Gathering.{Gains, IsLine}, Runs.{IsReply, memory_refused, with_newlines}, StdStreams.{inner_of}}
use Rattle.iref_tool.specs.{Examples.{is_of_examples}, declared.lines.Lines.{Lines}}

-- The reply to a line is that of `iref_cli`, or says that memory was refused, as it does of a line that was not kept. What the
-- reply is to a line with a verb of the examples, this does not say.
abbrev pub IsReplyTo : Option Text → Text → Type 0
IsReplyTo None reply = reply ≡ memory_refused
IsReplyTo (Some line) reply = is_of_examples line ≡ false → IsReply line reply

-- these lines wait for their replies
abbrev pub Asks : {W E : Type 0} → Lines W E → List Text → Type 0
Asks lines asked = (lines.asked.items ≡ with_newlines asked) × All IsLine asked

-- of lines that waited and those that came in, the first have replies, which were written or gathered; the others wait now
pub record RepliesTo {W E : Type 0} (contents : W → Option Text) (asked : List Text) (old : Lines W E) (lines : List (Option Text)) (new : Lines W E) : Type 0 where
  pub answered : List (Option Text)
  pub replies : List Text
  pub waiting : List Text
  pub division : map (λ line. Some line) asked ++ lines ≡ answered ++ map (λ line. Some line) waiting
  pub asks : Asks new waiting
  pub are_replies : AllZip IsReplyTo answered replies
  pub gains : Gains (with_newlines replies) (contents (inner_of old.out)) (contents (inner_of new.out)) old.answers.items new.answers.items

-- lines without a newline came in
abbrev pub AnswersLines : {W E : Type 0} → (W → Option Text) → Lines W E → List (Option Text) → Lines W E → Type 0
AnswersLines contents old lines new =
    All (λ line. IfSome line IsLine) lines → (asked : List Text) → Asks old asked → RepliesTo contents asked old lines new
