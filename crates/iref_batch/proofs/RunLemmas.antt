-- How a run goes on.
use Rattle.std.proofs.Common.{◌≡◌, true, false, [], ◌∷◌, ◌++◌, Option, Some, length, ◌<◌, arith, ap, sym, ◌∙◌, append_assoc, append-nil, subst}
use Rattle.std.proofs.{lemmas.Grind.{common_steps}, lemmas.List.{flat_map_more}}
use Rattle.std.proofs.lemmas.List.Elements.{AllZip-push}
use Rattle.iref.specs.{Rules.{Text}, Texts.{is_empty}}
use Rattle.iref_batch.specs.{Lines.{newline}, declared.lines.Lines.{Lines}, Runs.{IsReply, with_newline}}
use Rattle.iref_batch.specs.Gathering.{IsLine, IsNothing, Holds, Writes, Replies, InRun, SeenAs, SeesMore}
use Rattle.iref_batch.proofs.SeenLemmas.{seen_nothing, seen_part, seen_line}

pub in_run_start : (before : Text) (contents : Option Text) (lines : Lines) → lines.gathered.bytes.items ≡ [] → IsNothing lines.begun → contents ≡ Some before → InRun [] before contents lines
in_run_start before contents lines g n e = record {
  ended = [];
  replies = [];
  out = [];
  seen_as = seen_nothing lines.begun n;
  answered = tt;
  known = e ∙ ap Some (sym (append-nil before));
  out_is = g;
}

-- a line is replied to, and the next is begun
pub in_run_line : (tail : Text) (old new : Option Text) (lines lines_then : Lines) → IsLine tail → IsNothing lines_then.begun → ((line : Text) → Holds lines.begun line → Replies (line ++ tail) old new lines.gathered.bytes.items lines_then.gathered.bytes.items) → SeesMore (with_newline tail) old new lines lines_then
in_run_line tail old new lines lines_then l n f seen before s =
    let line = s.seen_as.line in
    let r = f line s.seen_as.kept in
    let q = r.2 (before ++ s.out) s.known in record {
      ended = s.ended ++ (line ++ tail) ∷ [];
      replies = s.replies ++ r.0 ∷ [];
      out = s.out ++ q.0;
      seen_as = seen_line seen tail s.ended lines.begun lines_then.begun l n s.seen_as;
      answered = AllZip-push IsReply s.ended s.replies (line ++ tail) r.0 s.answered r.1;
      known = grind (arith, common_steps);
      out_is = grind (arith, common_steps, flat_map_more);
    }

-- more of a line came in
pub in_run_more : (more : Text) (contents : Option Text) (lines lines_then : Lines) → IsLine more → (lines_then.begun.is_refused ≡ false → lines.begun.is_refused ≡ false) → (lines_then.begun.is_refused ≡ false → lines_then.begun.bytes.items ≡ lines.begun.bytes.items ++ more) → (lines_then.begun.is_refused ≡ true → is_empty more ≡ true → lines.begun.is_refused ≡ true) → lines_then.gathered ≡ lines.gathered → SeesMore more contents contents lines lines_then
in_run_more more contents lines lines_then l works kept some g seen before s = record {
  ended = s.ended;
  replies = s.replies;
  out = s.out;
  seen_as = seen_part seen more s.ended lines.begun lines_then.begun l works kept some s.seen_as;
  answered = s.answered;
  known = s.known;
  out_is = ap (λ gathered. s.out ++ gathered.bytes.items) g ∙ s.out_is;
}

-- the replies gathered are written
pub in_run_written : (seen before : Text) (old new : Option Text) (lines lines_then : Lines) → lines_then.begun ≡ lines.begun → lines_then.gathered.bytes.items ≡ [] → Writes lines.gathered.bytes.items old new → InRun seen before old lines → InRun seen before new lines_then
in_run_written seen before old new lines lines_then b empty w s =
    let gathered = lines.gathered.bytes.items in record {
      ended = s.ended;
      replies = s.replies;
      out = s.out ++ gathered;
      seen_as = subst (SeenAs seen s.ended) (sym b) s.seen_as;
      answered = s.answered;
      known = w (before ++ s.out) s.known ∙ ap Some (append_assoc before s.out gathered);
      out_is = ap (λ t. (s.out ++ gathered) ++ t) empty ∙ append-nil (s.out ++ gathered) ∙ s.out_is;
    }

-- a block of which a whole line more is taken
pub line_taken : (block front rest tail more : Text) → block ≡ front ++ rest → rest ≡ tail ++ newline ∷ more → block ≡ (front ++ (tail ++ newline ∷ [])) ++ more
line_taken block front rest tail more e h = grind (arith, common_steps)

pub line_seen : (seen block front rest tail more others : Text) → block ≡ front ++ rest → rest ≡ tail ++ newline ∷ more → (seen ++ front) ++ (tail ++ newline ∷ (more ++ others)) ≡ seen ++ (block ++ others)
line_seen seen block front rest tail more others e h = grind (arith, common_steps)

pub line_is_less : (rest tail more : Text) → rest ≡ tail ++ newline ∷ more → length more < length rest
line_is_less rest tail more h = grind (arith, common_steps)

pub in_run_nothing : (contents : Option Text) (lines : Lines) → SeesMore [] contents contents lines lines
in_run_nothing contents lines seen before s = rw append-nil s

-- more is seen after more
pub in_run_next : (front more all : Text) (a b c : Option Text) (lines lines_then lines_last : Lines) → all ≡ front ++ more → SeesMore front a b lines lines_then → SeesMore more b c lines_then lines_last → SeesMore all a c lines lines_last
in_run_next front more all a b c lines lines_then lines_last e f g seen before s = rw (e, ← append_assoc seen front more) (g (seen ++ front) before (f seen before s))
