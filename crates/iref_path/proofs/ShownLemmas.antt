-- The last items of a list, and those without them.
use Rattle.std.proofs.Common.{◌≡◌, ℕ, ◌+◌, ◌-◌, ◌≤◌, List, [], ◌∷◌, ◌++◌, ap, arith, drop, length, length-append, sym, take, ◌∙◌}
use Rattle.std.proofs.lemmas.List.{drop-drop, drop-take, length-take-le, take-append-drop, take-append-le, take_at}
use Rattle.iref_grammar.specs.Rules.{Text}
use Rattle.iref_path.specs.{Spelling.{each_closed}, StepsBetween.{last_ones}}
use Rattle.iref_path.proofs.SpellLemmas.{each_closed-append}

-- one more of the last items goes
pub one_less : (list now rest : List Text) (s : Text) (k : ℕ) → now ≡ take (length list - k) list → now ≡ rest ++ s ∷ [] → rest ≡ take (length list - (k + 1)) list
one_less list now rest s k e h =
    let size : length rest + 1 ≡ length now = sym (length-append rest (s ∷ [])) ∙ ap length (sym h) in
    let room = length-take-le (length list - k) list (omega arith) in
    let few : length rest ≡ length list - (k + 1) = omega (arith, size, ap length e, room) in
    let front = take-append-le (length rest) (take (length list - k) list) (drop (length list - k) list) (omega (arith, size, ap length e)) in
    grind (arith, take_at rest (s ∷ []), take-append-drop (length list - k) list, front, few)

pub none_less : (list now : List Text) (k : ℕ) → now ≡ take (length list - k) list → now ≡ [] → [] ≡ take (length list - (k + 1)) list
none_less list now k e h =
    let room = length-take-le (length list - k) list (omega arith) in
    grind (arith, ap length e, room)

-- the last ones of two parts
pub halves : (list : List Text) (n h : ℕ) → h ≤ n → n ≤ length list → last_ones (n - h) (take (length list - h) list) ++ last_ones h list ≡ last_ones n list
halves list n h le within =
    let i = length list - n in
    let m = n - h in
    let at : length list - h ≡ i + m = omega arith in
    let size = length-take-le (i + m) list (omega (arith, at)) in
    let start : length (take (i + m) list) - m ≡ i = omega (arith, size) in
    rw (at, start, drop-take i m list, ← drop-drop m i list) (take-append-drop m (drop i list))

pub halves_closed : (list : List Text) (n h : ℕ) → h ≤ n → n ≤ length list
    → each_closed (last_ones (n - h) (take (length list - h) list)) ++ each_closed (last_ones h list) ≡ each_closed (last_ones n list)
halves_closed list n h le within = sym (each_closed-append (last_ones (n - h) (take (length list - h) list)) (last_ones h list)) ∙ ap each_closed (halves list n h le within)
