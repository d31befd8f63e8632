-- How far a run has come: what was read, the line begun, and the replies gathered or written.
use Rattle.std.specs.Prelude.{◌≡◌, ◌==◌, ℕ, true, false, List, [], ◌++◌, ◌∷◌, Option, Some, None, Result, OnOk, OnErr}
use Rattle.std.specs.{Borrow.{Bor}, List.{All, AllZip}}
use Rattle.iref.specs.{Rules.{Text}, Texts.{is_empty}}
use Rattle.iref_batch.specs.{Lines.{Request, newline, lines_of}, declared.lines.Begun.{Begun}}
use Rattle.iref_batch.specs.declared.lines.Lines.{Lines}
use Rattle.iref_batch.specs.Runs.{IsReply, request_reply, with_newline, with_newlines, AnswersBegun}

-- a text without the delimiter
abbrev pub Lacks : ℕ → Text → Type 0
Lacks mark text = All (λ b. (b == mark) ≡ false) text

-- what stands before the first delimiter in the text, and what stands after it, if the delimiter is there
abbrev pub Cuts : ℕ → Text → Option (Bor Text × Bor Text) → Type 0
Cuts mark text None = Lacks mark text
Cuts mark text (Some cut) = Lacks mark cut.0.now × (text ≡ cut.0.now ++ mark ∷ cut.1.now)

-- a text without a newline
abbrev pub IsLine : Text → Type 0
IsLine text = Lacks newline text

-- the text has grown at its end
abbrev pub Extends : Text → Text → Type 0
Extends old new = (more : Text) × (new ≡ old ++ more)

-- the text was put at the end; where memory was refused, what was there before still stands first
abbrev pub Puts : {E : Type 0} → Text → Text → Text → Result (Unit {0}) E → Type 0
Puts text old new result = OnOk result (new ≡ old ++ text) × OnErr result (Extends old new)

-- the same of the reply to a request
abbrev pub PutsReply : {E : Type 0} → Request → Text → Text → Result (Unit {0}) E → Type 0
PutsReply request = Puts (request_reply request)

-- where the bytes of the writer are known, they have grown by the text
abbrev pub Writes : Text → Option Text → Option Text → Type 0
Writes text old new = (xs : Text) → old ≡ Some xs → new ≡ Some (xs ++ text)

-- where the bytes of the writer are known, they have grown by a beginning of the text
abbrev pub WritesPart : Text → Option Text → Option Text → Type 0
WritesPart text old new =
    (xs : Text) → old ≡ Some xs →
    (out : Text) × (lost : Text) × (new ≡ Some (xs ++ out)) × (text ≡ out ++ lost)

-- where the bytes of the writer are known, these and the replies gathered have grown by the text
abbrev pub Gains : Text → Option Text → Option Text → Text → Text → Type 0
Gains text old new gathered gathered_then =
    (xs : Text) → old ≡ Some xs →
    (out : Text) × (new ≡ Some (xs ++ out)) × (out ++ gathered_then ≡ gathered ++ text)

-- a reply to the line was gathered or written
abbrev pub Replies : Text → Option Text → Option Text → Text → Text → Type 0
Replies line old new gathered gathered_then =
    (reply : Text) × IsReply line reply × Gains (with_newline reply) old new gathered gathered_then

-- a beginning of the replies gathered, and of one to the line, was written
abbrev pub RepliesPart : Text → Option Text → Option Text → Text → Type 0
RepliesPart line old new gathered =
    (reply : Text) × IsReply line reply × WritesPart (gathered ++ with_newline reply) old new

-- no byte of a line came in
abbrev pub IsNothing : Begun → Type 0
IsNothing begun = (begun.bytes.items ≡ []) × (begun.is_refused ≡ false)

-- the bytes of the line begun are kept, unless memory was refused for them
abbrev pub Holds : Begun → Text → Type 0
Holds begun line = begun.is_refused ≡ false → begun.bytes.items ≡ line

-- the text seen is these lines, and the line begun
pub record SeenAs (seen : Text) (ended : List Text) (begun : Begun) : Type 0 where
  pub line : Text
  pub seen_is : seen ≡ with_newlines ended ++ line
  pub are_lines : All IsLine ended
  pub is_line : IsLine line
  pub kept : Holds begun line
  pub some : begun.is_refused ≡ true → is_empty line ≡ false

-- the lines seen have a reply each, which was written or gathered
pub record InRun (seen before : Text) (contents : Option Text) (lines : Lines) : Type 0 where
  pub ended : List Text
  pub replies : List Text
  pub out : Text
  pub seen_as : SeenAs seen ended lines.begun
  pub answered : AllZip IsReply ended replies
  pub known : contents ≡ Some (before ++ out)
  pub out_is : out ++ lines.gathered.bytes.items ≡ with_newlines replies

-- a run that has seen some text sees more of it
abbrev pub SeesMore : Text → Option Text → Option Text → Lines → Lines → Type 0
SeesMore more old new lines lines_then =
    (seen before : Text) → InRun seen before old lines → InRun (seen ++ more) before new lines_then

-- a run that has seen some text has now seen one of the same lines
abbrev pub SeesSameLines : Option Text → Option Text → Lines → Lines → Type 0
SeesSameLines old new lines lines_then =
    (seen before : Text) → InRun seen before old lines →
    (text : Text) × (lines_of text ≡ lines_of seen) × InRun text before new lines_then

-- a run that has seen some text has written a beginning of the replies to it and more
abbrev pub BreaksOff : Text → Option Text → Option Text → Lines → Type 0
BreaksOff more old new lines =
    (seen before : Text) → InRun seen before old lines → AnswersBegun (seen ++ more) before new
