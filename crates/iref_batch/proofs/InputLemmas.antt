-- How a run reads its input.
use Rattle.std.proofs.Common.{◌≡◌, ◌<◌, ◌≤◌, ◌+◌, ◌-◌, ◌^◌, ℕ, Bool, true, false, [], ◌++◌, Option, Some, length, take, ap, sym, ◌∙◌, append_assoc, arith, length-append, length-take}
use Rattle.std.proofs.lemmas.Grind.{common_steps}
use Rattle.std.specs.Io.KnownBytes.{Consumes, IsAtEnd, Keeps}
use Rattle.iref.specs.Rules.{Text}
use Rattle.iref_batch.specs.{declared.lines.Lines.{Lines}, Runs.{AnswersAll, AnswersBegun, EndsWell, EndsEarly}}
use Rattle.iref_batch.specs.Gathering.{IsNothing, InRun, SeesMore, BreaksOff}
use Rattle.iref_batch.proofs.{Writing.{same_from_keeps}, RunLemmas.{in_run_start}, EndLemmas.{ended_answered}}

-- so far the reader has given the text seen, by as many reads as bytes at most
pub record InInput (input before : Text) (reads : ℕ) (left contents : Option Text) (lines : Lines) : Type 0 where
  pub seen : Text
  pub rest : Text
  pub division : input ≡ seen ++ rest
  pub counted : reads ≤ length seen
  pub still_left : left ≡ Some rest
  pub run : InRun seen before contents lines

pub input_start : (input before : Text) (left contents : Option Text) (lines : Lines) → lines.gathered.bytes.items ≡ [] → IsNothing lines.begun → left ≡ Some input → contents ≡ Some before → InInput input before 0 left contents lines
input_start input before left contents lines g n e k = grind (arith, in_run_start)

consumed : (old new : Option Text) (bytes rest : Text) → Consumes old new bytes → old ≡ Some rest → (left : Text) × (new ≡ Some left) × (rest ≡ bytes ++ left)
consumed old new bytes rest h e = grind arith

pub input_more : (input before block : Text) (n reads : ℕ) (old new contents contents_then : Option Text) (lines lines_then : Lines) → 0 < n → n ≤ length block → Consumes old new (take n block) → SeesMore (take n block) contents contents_then lines lines_then → InInput input before reads old contents lines → InInput input before (reads + 1) new contents_then lines_then
input_more input before block n reads old new contents contents_then lines lines_then some within h f s =
    let q = consumed old new (take n block) s.rest h s.still_left in
    let counted = s.counted in record {
      seen = s.seen ++ take n block;
      rest = q.0;
      division = s.division ∙ ap (λ (t : Text). s.seen ++ t) q.2 ∙ sym (append_assoc s.seen (take n block) q.0);
      counted = omega (arith, length-append s.seen (take n block), length-take n block);
      still_left = q.1;
      run = f s.seen before s.run;
    }

-- a read of no byte met the end
at_end : (old new : Option Text) (bytes rest : Text) → bytes ≡ [] → Consumes old new bytes → IsAtEnd new → old ≡ Some rest → (rest ≡ []) × (new ≡ Some [])
at_end old new bytes rest z h a e = grind (arith, common_steps)

pub input_ended : (input before block : Text) (n reads : ℕ) (old new contents contents_then : Option Text) (lines : Lines) → n ≡ 0 → Consumes old new (take n block) → IsAtEnd new → ((seen before : Text) → InRun seen before contents lines → AnswersAll seen before contents_then) → InInput input before reads old contents lines → EndsWell input before new contents_then
input_ended input before block n reads old new contents contents_then lines z h a f s = grind (arith, common_steps, at_end old new (take n block), f s.seen before s.run)

-- a write fails after the last read, or before
pub input_cut_at_end : (input before block : Text) (n reads : ℕ) (old new contents contents_then : Option Text) (lines : Lines) → n ≡ 0 → Consumes old new (take n block) → IsAtEnd new → BreaksOff [] contents contents_then lines → InInput input before reads old contents lines → AnswersBegun input before contents_then
input_cut_at_end input before block n reads old new contents contents_then lines z h a f s = grind (arith, common_steps, at_end old new (take n block), f s.seen before s.run)

pub input_cut : (input before block : Text) (n reads : ℕ) (old new contents contents_then : Option Text) (lines : Lines) → Consumes old new (take n block) → ((others : Text) → BreaksOff (take n block ++ others) contents contents_then lines) → InInput input before reads old contents lines → AnswersBegun input before contents_then
input_cut input before block n reads old new contents contents_then lines h f s =
    let q = consumed old new (take n block) s.rest h s.still_left in
    rw (s.division, q.2) (f q.0 s.seen before s.run)

pub reader_failure : (input before : Text) (reads : ℕ) (old new contents : Option Text) (lines : Lines) (reader_failed : Bool) → lines.gathered.bytes.items ≡ [] → Keeps old new → reader_failed ≡ true → InInput input before reads old contents lines → EndsEarly input before reader_failed new contents
reader_failure input before reads old new contents lines reader_failed g k failed s =
    ended_answered input s.seen s.rest before reader_failed new contents lines (λ (h : reader_failed ≡ false). cc) g s.division (same_from_keeps old new s.rest k s.still_left) s.run

pub no_end : (input before : Text) (reads : ℕ) (left contents : Option Text) (lines : Lines) (reader_failed : Bool) → lines.gathered.bytes.items ≡ [] → 2 ^ 64 - 1 ≤ reads → InInput input before reads left contents lines → EndsEarly input before reader_failed left contents
no_end input before reads left contents lines reader_failed g many s =
    let counted = s.counted in
    ended_answered input s.seen s.rest before reader_failed left contents lines (λ (h : reader_failed ≡ false). omega arith) g s.division s.still_left s.run
