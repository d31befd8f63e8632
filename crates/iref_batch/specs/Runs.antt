-- What the program has written for what it has read.
use Rattle.std.specs.Prelude.{◌≡◌, ◌≤◌, ◌-◌, ◌^◌, ◌⊎◌, Bool, false, List, [], ◌∷◌, ◌++◌, Option, Some, None, codes, length}
use Rattle.std.specs.List.{flat_map, AllZip}
use Rattle.iref.specs.{Characters.{iri_chars}, Rules.{Text}, Texts.{pieces_at, all_but_last}}
use Rattle.iref_batch.specs.Lines.{Request, BadCommand, newline, answer, answer_if_valid, answer_text, lines_of, all_verbs}

-- what is written for a request, for what may be one, and for a line
abbrev pub request_reply : Request → Text
request_reply request = answer_text (answer_if_valid iri_chars request)

abbrev pub reply_to : Option Request → Text
reply_to None = answer_text BadCommand
reply_to (Some request) = request_reply request

abbrev pub line_reply : Text → Text
line_reply line = answer_text (answer iri_chars all_verbs line)

-- what is written where memory was refused for a line
abbrev pub memory_refused : Text
memory_refused = codes "error memory"

-- the reply to a line is its answer, or says that memory was refused for it
abbrev pub IsReply : Text → Text → Type 0
IsReply line reply = (reply ≡ line_reply line) ⊎ (reply ≡ memory_refused)

-- the text, ended with a newline
abbrev pub with_newline : Text → Text
with_newline text = text ++ newline ∷ []

abbrev pub with_newlines : List Text → Text
with_newlines texts = flat_map (λ text. with_newline text) texts

-- the lines that a newline ends
abbrev pub ended_lines : Text → List Text
ended_lines input = all_but_last (pieces_at newline input)

-- the replies to all lines of the input were written
pub record AnswersAll (input before : Text) (contents : Option Text) : Type 0 where
  pub replies : List Text
  pub answered : AllZip IsReply (lines_of input) replies
  pub written : contents ≡ Some (before ++ with_newlines replies)

-- a beginning of the replies to all lines of the input was written
pub record AnswersBegun (input before : Text) (contents : Option Text) : Type 0 where
  pub replies : List Text
  pub out : Text
  pub lost : Text
  pub answered : AllZip IsReply (lines_of input) replies
  pub division : with_newlines replies ≡ out ++ lost
  pub written : contents ≡ Some (before ++ out)

-- the input was read to its end
abbrev pub EndsWell : Text → Text → Option Text → Option Text → Type 0
EndsWell input before left contents = (left ≡ Some []) × AnswersAll input before contents

-- a beginning of the input was read, up to a failed read or by `u64::MAX` reads of a byte at least;
-- the replies to the lines that end there were written
pub record EndsEarly (input before : Text) (failed : Bool) (left contents : Option Text) : Type 0 where
  pub read : Text
  pub rest : Text
  pub replies : List Text
  pub division : input ≡ read ++ rest
  pub still_left : left ≡ Some rest
  pub long : failed ≡ false → 2 ^ 64 - 1 ≤ length read
  pub answered : AllZip IsReply (ended_lines read) replies
  pub written : contents ≡ Some (before ++ with_newlines replies)
