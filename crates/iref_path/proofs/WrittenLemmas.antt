-- Texts that are written over the end of what they are made from.
use Rattle.std.proofs.{Common.{◌≡◌, ℕ, ◌++◌, drop, length, arith}, lemmas.List.{append-nil, drop_all}}
use Rattle.iref_grammar.specs.Rules.{Text}
use Rattle.iref_path.specs.Written.{WritesBefore}

-- at the end of all
pub nothing_behind : (text old : Text) → text ++ drop (length old) old ≡ text
nothing_behind text old = grind (arith, append-nil, drop_all)

pub to_end : (text old : Text) {new : Text} {start : ℕ} → WritesBefore (length old) text old new start → drop start new ≡ text
to_end text old h = grind (arith, nothing_behind)
