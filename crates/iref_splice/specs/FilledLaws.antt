-- A slice that is filled from its end: nothing changes it, and one piece before another is one piece.
use Rattle.std.proofs.Common.{◌≡◌, ℕ, ◌-◌, ◌≤◌, [], ◌++◌, length, sym, ◌∙◌, arith, append_assoc, length-append, length-take, length-drop, take-append-drop, take, drop, length-take-le}
use Rattle.std.proofs.{lemmas.Bool.Decides.{nat_tests}, lemmas.List.{drop_at, take-append-le, take-take}}
use Rattle.iref_grammar.specs.Rules.{Text}
use Rattle.iref_splice.specs.Filled.{HasRoom, filled_after, piece_start, with_piece}
use Rattle.iref_splice.specs.declared.backward.Filled.{Filled}

nothing-bytes : (bytes : Text) (end : ℕ) → with_piece bytes end [] ≡ bytes
nothing-bytes bytes end = grind (arith, nat_tests, take-append-drop end bytes)

nothing-start : (bytes : Text) (end : ℕ) → piece_start bytes end [] ≡ end
nothing-start bytes end = grind (arith, nat_tests)

pub filled-nothing : (f : Filled) → filled_after f [] ≡ f
filled-nothing f = λ i. record f { bytes = record f.bytes { now = nothing-bytes f.bytes.now f.start i }; start = nothing-start f.bytes.now f.start i }

-- within the bytes
joined : (bytes front back : Text) (end : ℕ) → end ≤ length bytes
    → take (end - length back - length front) (take (end - length back) bytes ++ (back ++ drop end bytes)) ++ (front ++ drop (end - length back) (take (end - length back) bytes ++ (back ++ drop end bytes)))
    ≡ take (end - length (front ++ back)) bytes ++ ((front ++ back) ++ drop end bytes)
joined bytes front back end h =
    let start = end - length back in
    let rest = back ++ drop end bytes in
    let len : length (take start bytes) ≡ start = length-take-le start bytes (omega arith) in
    let kept = take-append-le (start - length front) (take start bytes) rest (omega (arith, len)) ∙ take-take (start - length front) start bytes (omega arith) in
    let sum : start - length front ≡ end - length (front ++ back) = grind (arith, length-append) in
    (λ i. kept i ++ (front ++ drop_at (take start bytes) rest start len i)) ∙ (λ i. take (sum i) bytes ++ sym (append_assoc front back (drop end bytes)) i)

size : (bytes piece : Text) (end : ℕ) → end ≤ length bytes → end - length piece ≤ length (with_piece bytes end piece)
size bytes piece end h = grind (arith, nat_tests, length-append, length-take, length-drop)

both-bytes : (bytes front back : Text) (end : ℕ) → with_piece (with_piece bytes end back) (piece_start bytes end back) front ≡ with_piece bytes end (front ++ back)
both-bytes bytes front back end = grind (arith, nat_tests, joined bytes front back end, size bytes back end)

both-start : (bytes front back : Text) (end : ℕ) → piece_start (with_piece bytes end back) (piece_start bytes end back) front ≡ piece_start bytes end (front ++ back)
both-start bytes front back end = grind (arith, nat_tests, length-append, size bytes back end)

pub filled-both : (f : Filled) (front back : Text) → filled_after (filled_after f back) front ≡ filled_after f (front ++ back)
filled-both f front back = λ i. record f { bytes = record f.bytes { now = both-bytes f.bytes.now front back f.start i }; start = both-start f.bytes.now front back f.start i }

pub filled-fits : (f : Filled) (front back : Text) → HasRoom f (front ++ back) → (HasRoom f back) × (HasRoom (filled_after f back) front)
filled-fits f front back h =
    let r = h.room in
    let w = h.within in
    let s = size f.bytes.now back f.start w in
    (record { room = grind (arith, length-append); within = w }, record { room = grind (arith, nat_tests, length-append); within = grind (arith, nat_tests) })
