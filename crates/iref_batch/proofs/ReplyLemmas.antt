-- Replies gathered and written.
use Rattle.std.proofs.Common.{◌≡◌, ◌++◌, [], Option, refl, inl}
use Rattle.iref.specs.Rules.{Text}
use Rattle.iref_batch.specs.{Gathering.{Writes, WritesPart, Replies, RepliesPart}, Runs.{line_reply, with_newline, IsReply}}
use Rattle.iref_batch.proofs.Writing.{gains_gathered, gains_written}

pub answer_gathered : (line : Text) (a : Option Text) (gathered gathered_then : Text) → gathered_then ≡ gathered ++ with_newline (line_reply line) → Replies line a a gathered gathered_then
answer_gathered line a gathered gathered_then e = (line_reply line, inl refl, gains_gathered _ a gathered gathered_then e)

pub reply_written : (line gathered reply : Text) {more gathered_then : Text} {a b : Option Text} → IsReply line reply → more ≡ gathered ++ with_newline reply → gathered_then ≡ [] → Writes more a b → Replies line a b gathered gathered_then
reply_written line gathered reply {gathered_then = gathered_then} {a = a} {b = b} is e empty w = (reply, is, gains_written _ a b gathered gathered_then empty (rw (← e) w))

pub reply_cut : (line gathered reply : Text) {more : Text} {a b : Option Text} → IsReply line reply → more ≡ gathered ++ with_newline reply → WritesPart more a b → RepliesPart line a b gathered
reply_cut line gathered reply is e w = (reply, is, rw (← e) w)
