-- Writing in pieces.
use Rattle.std.specs.Io.KnownBytes.{Appends, Keeps}
use Rattle.std.proofs.Common.{arith, ◌≡◌, ◌==◌, ◌-◌, ◌++◌, ℕ, true, [], Option, Some, refl, ap, ◌∙◌, append-nil, length, take, drop, Result, OnErr}
use Rattle.std.proofs.{lemmas.Grind.{common_steps}, lemmas.List.{take_rest, nil_from_length}}
use Rattle.iref.specs.Rules.{Text}
use Rattle.iref_batch.specs.Gathering.{Writes, WritesPart, Gains}

pub writes_from_appends : (text : Text) (old new : Option Text) → Appends old new text → Writes text old new
writes_from_appends text old new h xs e = grind arith

pub same_from_keeps : (old new : Option Text) (xs : Text) → Keeps old new → old ≡ Some xs → new ≡ Some xs
same_from_keeps old new xs h e = grind arith

pub writes_more : (text more : Text) (a b c : Option Text) → Writes text a b → Writes more b c → Writes (text ++ more) a c
writes_more text more a b c f g xs e = grind (arith, common_steps)

-- what was written before a failed write is a beginning
pub part_at_failure : (text rest : Text) (a b c : Option Text) → Writes text a b → Keeps b c → WritesPart (text ++ rest) a c
part_at_failure text rest a b c f k xs e = (text, rest, same_from_keeps b c (xs ++ text) k (f xs e), refl)

pub part_after : (text more : Text) (a b c : Option Text) → Writes text a b → WritesPart more b c → WritesPart (text ++ more) a c
part_after text more a b c f p xs e = let q = p (xs ++ text) (f xs e) in (text ++ q.0, q.1, grind (arith, common_steps), grind (arith, common_steps))

pub part_of_more : (text more : Text) (a b : Option Text) → WritesPart text a b → WritesPart (text ++ more) a b
part_of_more text more a b p xs e = let q = p xs e in (q.0, q.1 ++ more, q.2, grind (arith, common_steps))

-- a slice's rest after n more bytes
pub cut_again : (text front rest : Text) (n : ℕ) → text ≡ front ++ rest → text ≡ (front ++ take n rest) ++ take (length rest - n) (drop n rest)
cut_again text front rest n e = grind (arith, common_steps, take_rest)

pub all_cut : (text front rest : Text) → text ≡ front ++ rest → true ≡ (length rest == 0) → text ≡ front
all_cut text front rest e h = grind (arith, common_steps, nil_from_length)

pub gains_gathered : (text : Text) (a : Option Text) (gathered gathered_then : Text) → gathered_then ≡ gathered ++ text → Gains text a a gathered gathered_then
gains_gathered text a gathered gathered_then e xs h = grind (arith, common_steps)

pub gains_written : (text : Text) (a b : Option Text) (gathered gathered_then : Text) → gathered_then ≡ [] → Writes (gathered ++ text) a b → Gains text a b gathered gathered_then
gains_written text a b gathered gathered_then e f xs h =
    (gathered ++ text, f xs h, ap (λ (t : Text). (gathered ++ text) ++ t) e ∙ append-nil (gathered ++ text))

-- what holds anyway holds where a call failed
pub on_err : {T E P : Type 0} (r : Result T E) → P → OnErr r P
on_err r p = grind arith
