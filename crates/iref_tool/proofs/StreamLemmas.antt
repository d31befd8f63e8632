-- How the lines of an input are given.
use Rattle.std.proofs.Common.{◌≡◌, ℕ, true, false, List, [], ◌∷◌, ◌++◌, Option, Result, Ok, Err, IfSome, OnOk, take, append-nil, append_assoc}
use Rattle.std.proofs.{KnownBytes.{Consumes-kept, Consumes-nil, Consumes-trans}, lemmas.Slice.Zip.{all_zipped_more}}
use Rattle.std.specs.Io.KnownBytes.{Consumes, IsAtEnd, Keeps}
use Rattle.iref.specs.{Rules.{Text}, Texts.{is_empty}}
use Rattle.iref_batch.specs.{Gathering.{IsLine, IsNothing}, Lines.{lines_of}, Runs.{ended_lines, with_newline}, declared.lines.Begun.{Begun}}
use Rattle.iref_batch.specs.declared.{status.Status.{Status}, status.Status.TheVariants.{Well}}
use Rattle.iref_batch.proofs.SeenLemmas.{ended_lines_of_seen, lines_of_all_seen, lines_of_seen, seen_line, seen_nothing, seen_part}
use Rattle.iref_tool.specs.Streams.{IsGiven, GivesAll, GivesBeginning, GivesFile, GivesLine, GivesLines, InInput, OnReadError, ReadsMore, file_status}
use Rattle.iref_tool.specs.declared.input.{Failure.{Failure}, Failure.TheVariants.{Read, Write}}

-- so far some text was read, and its lines were given
pub record HasRead {T : Type 0} (given : T → List (Option Text) → T → Type 0) (before left : Option Text) (begun : Begun) (first now : T) : Type 0 where
  pub text : Text
  pub read : Consumes before left text
  pub lines : InInput given text begun first now

module _ {T : Type 0} (given : T → List (Option Text) → T → Type 0) where
  read_start : (begun : Begun) (first : T) → given first [] first → IsNothing begun → InInput given [] begun first first
  read_start begun first none n = record { ended = []; lines = []; seen_as = seen_nothing begun n; are_given = tt; taken = none }

  pub input_start : (left : Option Text) (begun : Begun) (first : T) → given first [] first → IsNothing begun → HasRead given left left begun first first
  input_start left begun first none n = record { text = []; read = Consumes-nil left; lines = read_start begun first none n }

  pub read_nothing : (begun : Begun) (s : T) → ReadsMore given [] begun begun s s
  read_nothing begun s seen first r = rw append-nil r

  pub read_next : (front more all : Text) (begun mid begun_then : Begun) (old s new : T) → all ≡ front ++ more → ReadsMore given front begun mid old s → ReadsMore given more mid begun_then s new → ReadsMore given all begun begun_then old new
  read_next front more all begun mid begun_then old s new e f g seen first r = rw (e, ← append_assoc seen front more) (g (seen ++ front) first (f seen first r))

  -- more of a line was read
  pub read_part : (more : Text) (begun begun_then : Begun) (s : T) → IsLine more → (begun_then.is_refused ≡ false → begun.is_refused ≡ false) → (begun_then.is_refused ≡ false → begun_then.bytes.items ≡ begun.bytes.items ++ more) → (begun_then.is_refused ≡ true → is_empty more ≡ true → begun.is_refused ≡ true)
      → ReadsMore given more begun begun_then s s
  read_part more begun begun_then s l works kept some seen first r = record {
    ended = r.ended;
    lines = r.lines;
    seen_as = seen_part seen more r.ended begun begun_then l works kept some r.seen_as;
    are_given = r.are_given;
    taken = r.taken;
  }

  module _ (both : (old mid new : T) (lines others : List (Option Text)) → given old lines mid → given mid others new → given old (lines ++ others) new) where
    -- a line was given, and the next begun
    pub read_line : (tail : Text) (begun begun_then : Begun) (old new : T) → IsLine tail → IsNothing begun_then → GivesLine given begun tail old new → ReadsMore given (with_newline tail) begun begun_then old new
    read_line tail begun begun_then old new l n f seen first r =
        let line = r.seen_as.line in
        let g = f line r.seen_as.kept in record {
          ended = r.ended ++ (line ++ tail) ∷ [];
          lines = r.lines ++ g.0 ∷ [];
          seen_as = seen_line seen tail r.ended begun begun_then l n r.seen_as;
          are_given = all_zipped_more IsGiven r.ended r.lines (line ++ tail) g.0 r.are_given g.1;
          taken = both first old new r.lines (g.0 ∷ []) r.taken g.2;
        }

    -- no line is begun where the input ends
    pub all_given : (seen : Text) (begun : Begun) (first old new : T) → IsNothing begun → given old [] new → InInput given seen begun first old → GivesLines given (lines_of seen) first new
    all_given seen begun first old new n g r = record {
      lines = r.lines;
      are_given = rw (lines_of_seen seen r.ended begun r.seen_as n) r.are_given;
      taken = rw append-nil at (both first old new r.lines [] r.taken g);
    }

    -- the last line was given where the input ends
    pub last_given : (seen : Text) (begun : Begun) (first old mid new : T) → (begun.is_refused ≡ false → is_empty begun.bytes.items ≡ false) → GivesLine given begun [] old mid → given mid [] new → InInput given seen begun first old → GivesLines given (lines_of seen) first new
    last_given seen begun first old mid new some f e r =
        let line = r.seen_as.line in
        let g = f line r.seen_as.kept in record {
          lines = r.lines ++ g.0 ∷ [];
          are_given = rw (lines_of_all_seen seen r.ended begun r.seen_as some) (all_zipped_more IsGiven r.ended r.lines line g.0 r.are_given (rw append-nil at g.1));
          taken = rw append-nil at (both first mid new (r.lines ++ g.0 ∷ []) [] (both first old mid r.lines (g.0 ∷ []) r.taken g.2) e);
        }

    -- no line was given since
    pub given_since : (read : List Text) (old mid new : T) → given mid [] new → GivesLines given read old mid → GivesLines given read old new
    given_since read old mid new g r = record { lines = r.lines; are_given = r.are_given; taken = rw append-nil at (both old mid new r.lines [] r.taken g) }

    read_paused : (seen : Text) (begun : Begun) (first mid new : T) → given mid [] new → InInput given seen begun first mid → InInput given seen begun first new
    read_paused seen begun first mid new g r = record {
      ended = r.ended;
      lines = r.lines;
      seen_as = r.seen_as;
      are_given = r.are_given;
      taken = rw append-nil at (both first mid new r.lines [] r.taken g);
    }

    pub input_more : (block : Text) (n : ℕ) (before left left_then : Option Text) (begun begun_then : Begun) (first old mid new : T) → Consumes left left_then (take n block) → ReadsMore given (take n block) begun begun_then old mid → given mid [] new → HasRead given before left begun first old → HasRead given before left_then begun_then first new
    input_more block n before left left_then begun begun_then first old mid new h f e r = record {
      text = r.text ++ take n block;
      read = Consumes-trans before left left_then r.text (take n block) r.read h;
      lines = read_paused (r.text ++ take n block) begun_then first mid new e (f r.text first r.lines);
    }

  -- a read of no byte met the end
  pub input_ended : (block : Text) (n : ℕ) (before left left_then : Option Text) (begun : Begun) (first old new : T) → n ≡ 0 → Consumes left left_then (take n block) → IsAtEnd left_then → ((seen : Text) (first : T) → InInput given seen begun first old → GivesLines given (lines_of seen) first new) → HasRead given before left begun first old → GivesAll given before left_then first new
  input_ended block n before left left_then begun first old new z h a f r = record {
    text = r.text;
    read = let more = Consumes-trans before left left_then r.text (take n block) r.read h in rw (z, append-nil) at more;
    at_end = a;
    lines = f r.text first r.lines;
  }

  -- a failed read takes nothing
  pub input_kept : (before left left_then : Option Text) (begun : Begun) (first now : T) → Keeps left left_then → HasRead given before left begun first now → HasRead given before left_then begun first now
  input_kept before left left_then begun first now k r = record { text = r.text; read = Consumes-kept before left left_then r.text r.read k; lines = r.lines }

  pub input_cut : (before left : Option Text) (begun : Begun) (first now : T) → HasRead given before left begun first now → GivesBeginning given before left first now
  input_cut before left begun first now r = record {
    text = r.text;
    read = r.read;
    lines = record {
      lines = r.lines.lines;
      are_given = rw (ended_lines_of_seen r.text r.lines.ended begun r.lines.seen_as) r.lines.are_given;
      taken = r.lines.taken;
    };
  }

-- what holds anyway holds where a read failed
pub on_read_error : {P : Type 0} (r : Result (Unit {0}) Failure) → P → OnReadError r P
on_read_error (Ok done) p = tt
on_read_error (Err Write) p = tt
on_read_error (Err (Read error)) p = p

-- of a text that was not read
pub nothing_given : {T : Type 0} {given : T → List (Option Text) → T → Type 0} {now : T} → given now [] now → (text : Text) × GivesLines given (ended_lines text) now now
nothing_given none = ([], record { lines = []; are_given = tt; taken = none })

module _ {T : Type 0} (given : T → List (Option Text) → T → Type 0) (both : (old mid new : T) (lines others : List (Option Text)) → given old lines mid → given mid others new → given old (lines ++ others) new) (old mid new : T) (none : given mid [] new) where
  -- a file was read, and no line was given since
  file_given_by : (read : Result (Unit {0}) Failure) → OnOk read ((text : Text) × GivesLines given (lines_of text) old mid) → OnReadError read ((text : Text) × GivesLines given (ended_lines text) old mid) → IfSome (file_status read) (λ status. GivesFile given status old new)
  file_given_by (Ok done) lines cut = (lines.0, given_since given both (lines_of lines.0) old mid new none lines.1)
  file_given_by (Err Write) lines cut = tt
  file_given_by (Err (Read error)) lines cut = (cut.0, given_since given both (ended_lines cut.0) old mid new none cut.1)

  pub file_given : (read : Result (Unit {0}) Failure) (status : Option Status) → status ≡ file_status read → OnOk read ((text : Text) × GivesLines given (lines_of text) old mid) → OnReadError read ((text : Text) × GivesLines given (ended_lines text) old mid) → IfSome status (λ s. GivesFile given s old new)
  file_given read status is lines cut = rw is (file_given_by read lines cut)

-- what holds where a read went well holds of a file that is well
pub holds_if_well : (P : Type 0) (read : Result (Unit {0}) Failure) (status : Option Status) → status ≡ file_status read → OnOk read P → IfSome status (λ s. s ≡ Well → P)
holds_if_well P read status is holds = rw is (by read holds)
  where
    by : (read : Result (Unit {0}) Failure) → OnOk read P → IfSome (file_status read) (λ s. s ≡ Well → P)
    by (Ok done) p = λ well. p
    by (Err Write) p = tt
    by (Err (Read error)) p = λ well. absurd (cc well)
