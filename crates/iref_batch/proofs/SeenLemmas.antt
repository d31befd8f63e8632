-- The lines of a text, as more of it is seen.
use Rattle.std.proofs.Common.{◌≡◌, ◌==◌, true, false, List, [], ◌∷◌, ◌++◌, append_assoc, refl, ap, sym, ◌∙◌, arith}
use Rattle.std.proofs.{lemmas.Grind.{common_steps}, lemmas.List.{flat_map_more}}
use Rattle.std.proofs.lemmas.List.Elements.{All-nil, All-append, All-push}
use Rattle.iref.specs.{Rules.{Text}, Texts.{is_empty}}
use Rattle.iref_batch.specs.{Lines.{newline, lines_of}, declared.lines.Begun.{Begun}, Runs.{ended_lines, with_newline, with_newlines}}
use Rattle.iref_batch.specs.Gathering.{IsLine, IsNothing, Holds, SeenAs}
use Rattle.iref_batch.proofs.LineLemmas.{ended_lines_of, lines_of_begun, lines_of_ended, lines_of_lines, lines_of_next}

pub no_byte : IsLine []
no_byte = All-nil (λ b. (b == newline) ≡ false)

line-append : (begun more : Text) → IsLine begun → IsLine more → IsLine (begun ++ more)
line-append begun more h l = All-append (λ b. (b == newline) ≡ false) begun more h l

not_empty-append : (begun more : Text) → (is_empty more ≡ true → is_empty begun ≡ false) → is_empty (begun ++ more) ≡ false
not_empty-append begun more h = grind (arith, common_steps)

-- a line after lines
next_line : (lines : List Text) (begun tail rest : Text) → (with_newlines lines ++ begun) ++ (tail ++ newline ∷ rest) ≡ with_newlines lines ++ ((begun ++ tail) ++ newline ∷ rest)
next_line lines begun tail rest = grind (arith, common_steps)

-- the line begun is empty where no byte of it came in
pub nothing_begun : (begun : Begun) (line : Text) → IsNothing begun → Holds begun line → line ≡ []
nothing_begun begun line nothing holds = sym (holds nothing.1) ∙ nothing.0

pub seen_nothing : (begun : Begun) → IsNothing begun → SeenAs [] [] begun
seen_nothing begun n = record {
  line = [];
  seen_is = refl;
  are_lines = All-nil IsLine;
  is_line = no_byte;
  kept = λ (h : begun.is_refused ≡ false). n.0;
  some = λ (h : begun.is_refused ≡ true). let works = n.1 in cc;
}

-- more of a line came in
pub seen_part : (seen more : Text) (ended : List Text) (begun begun_then : Begun) → IsLine more → (begun_then.is_refused ≡ false → begun.is_refused ≡ false) → (begun_then.is_refused ≡ false → begun_then.bytes.items ≡ begun.bytes.items ++ more) → (begun_then.is_refused ≡ true → is_empty more ≡ true → begun.is_refused ≡ true)
    → SeenAs seen ended begun → SeenAs (seen ++ more) ended begun_then
seen_part seen more ended begun begun_then l works kept some s = record {
  line = s.line ++ more;
  seen_is = grind (arith, common_steps);
  are_lines = s.are_lines;
  is_line = line-append s.line more s.is_line l;
  kept = λ (h : begun_then.is_refused ≡ false). grind (arith, common_steps, works h, kept h, s.kept (works h));
  some = λ (h : begun_then.is_refused ≡ true). not_empty-append s.line more (λ e. s.some (some h e));
}

-- a line has ended, and the next is begun
pub seen_line : (seen tail : Text) (ended : List Text) (begun begun_then : Begun) → IsLine tail → IsNothing begun_then → (s : SeenAs seen ended begun) → SeenAs (seen ++ with_newline tail) (ended ++ (s.line ++ tail) ∷ []) begun_then
seen_line seen tail ended begun begun_then l n s = record {
  line = [];
  seen_is = grind (arith, common_steps, flat_map_more);
  are_lines = All-push IsLine ended (s.line ++ tail) s.are_lines (line-append s.line tail s.is_line l);
  is_line = no_byte;
  kept = λ (h : begun_then.is_refused ≡ false). n.0;
  some = λ (h : begun_then.is_refused ≡ true). let works = n.1 in cc;
}

module _ (seen : Text) (ended : List Text) (begun : Begun) (s : SeenAs seen ended begun) where
  pub ended_lines_of_seen : ended_lines seen ≡ ended
  ended_lines_of_seen = ap ended_lines s.seen_is ∙ ended_lines_of ended s.line s.are_lines s.is_line

  -- where no line is begun
  pub lines_of_seen : IsNothing begun → lines_of seen ≡ ended
  lines_of_seen n = ap lines_of s.seen_is ∙ ap (λ t. lines_of (with_newlines ended ++ t)) (nothing_begun begun s.line n s.kept) ∙ lines_of_ended ended s.are_lines

  -- where the line begun is not empty
  pub lines_of_all_seen : (begun.is_refused ≡ false → is_empty begun.bytes.items ≡ false) → lines_of seen ≡ ended ++ s.line ∷ []
  lines_of_all_seen f =
      let some : is_empty s.line ≡ false = grind (arith, common_steps, s.some, s.kept) in
      ap lines_of s.seen_is ∙ lines_of_begun ended s.line s.are_lines s.is_line some

  -- where more follows
  pub lines_of_more : (others : Text) → lines_of (seen ++ others) ≡ ended ++ lines_of (s.line ++ others)
  lines_of_more others =
      ap (λ t. lines_of (t ++ others)) s.seen_is ∙ ap lines_of (append_assoc (with_newlines ended) s.line others)
      ∙ lines_of_lines ended (s.line ++ others) s.are_lines

  -- where the line ends, and others may follow
  pub lines_of_line : (tail others : Text) → IsLine tail → lines_of (seen ++ (tail ++ newline ∷ others)) ≡ (ended ++ (s.line ++ tail) ∷ []) ++ lines_of others
  lines_of_line tail others l =
      ap (λ t. lines_of (t ++ (tail ++ newline ∷ others))) s.seen_is ∙ ap lines_of (next_line ended s.line tail others)
      ∙ lines_of_next ended (s.line ++ tail) others s.are_lines (line-append s.line tail s.is_line l)
