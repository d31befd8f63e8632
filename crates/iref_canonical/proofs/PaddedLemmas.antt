-- Texts behind which more bytes can be read: the parts that they begin with.
use Rattle.std.proofs.Common.{arith, ◌≡◌, ℕ, ◌+◌, ◌≤◌, ◌++◌, length, take, drop, refl, sym, ◌∙◌, ap, append_assoc, length-append, Option, None, Some}
use Rattle.std.proofs.lemmas.List.{drop_at, take-take, take_at}
use Rattle.iref_grammar.specs.Rules.{Text}
use Rattle.iref_splice.specs.Changes.{with_mark}
use Rattle.iref_canonical.specs.Padded.{BeginsWith}

pub marked_size : (mark : ℕ) (part : Option Text) (text : Text) → BeginsWith mark part text → with_mark mark part ≤ length text
marked_size mark None text h = omega arith
marked_size mark (Some part) text h = omega (arith, h.size, ap length h.split, length-append (h.delimiter ++ part) h.rest, length-append h.delimiter part)

pub marked_rest : (mark : ℕ) (part : Option Text) (text : Text) (h : BeginsWith mark part text) → drop (with_mark mark part) text ≡ h.rest
marked_rest mark None text h = h.split
marked_rest mark (Some part) text h =
    ap (drop (mark + length part)) h.split ∙ drop_at (h.delimiter ++ part) h.rest (mark + length part) (omega (arith, h.size, length-append h.delimiter part))

pub part_in : (mark len : ℕ) (part text bytes : Text) → BeginsWith mark (Some part) text → take len bytes ≡ drop mark text → length part ≤ len → take (length part) bytes ≡ part
part_in mark len part text bytes h e most =
    let cut = ap (drop mark) (h.split ∙ append_assoc h.delimiter part h.rest) ∙ drop_at h.delimiter (part ++ h.rest) mark h.size in
    sym (take-take (length part) len bytes most) ∙ ap (take (length part)) (e ∙ cut) ∙ take_at part h.rest (length part) refl
