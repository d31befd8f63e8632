-- The way from the directory of one path to another, up to their common beginning and down.
use Rattle.std.proofs.Common.{append_assoc, ◌≡◌, ◌∙◌, ap, refl, Bool, ℕ, ◌+◌, ◌-◌, ◌*◌, ◌<◌, ◌≤◌, List, [], ◌∷◌, ◌++◌, codes, drop, length, replicate, sym, take, arith, length-append}
use Rattle.std.proofs.{lemmas.List.{take_at, drop-append-le}, lemmas.List.Sums.{common_prefix_len-le}}
use Rattle.std.specs.List.{common_prefix_len}
use Rattle.iref_grammar.specs.{Rules.{Text}, Texts.{all_but_last}}
use Rattle.iref_grammar.specs.{NormalList.{count_parents}, Relative.{last_or_empty}}
use Rattle.iref_grammar.proofs.LeadingLemmas.{divided_last}
use Rattle.iref_path.specs.{Spelling.{each_closed}, StepsBetween.{last_ones, steps_with, with_last}}
use Rattle.iref_path.proofs.SpellLemmas.{last_size, size-append, size-parents, relative-spelled, list_size}
use Rattle.iref_path.proofs.{SuffixLemmas.{size-drop}, RelativeStepLemmas.{up-joined, up-size}}

-- ---- all items but the last

pub fewer_without_last : (list : List Text) → length (all_but_last list) ≤ length list
fewer_without_last [] = omega arith
fewer_without_last (s ∷ rest) = grind (arith, fewer_without_last rest)

pub whole_divided : (list : List Text) → 0 < length list → list ≡ with_last list
whole_divided [] some = absurd (omega (arith, some))
whole_divided (s ∷ rest) some = sym (divided_last s rest)

pub length-with_last : (list : List Text) → length (with_last list) ≡ length (all_but_last list) + 1
length-with_last list = length-append (all_but_last list) (last_or_empty list ∷ [])

-- ---- its size

pub size-with_last : (list : List Text) → length (each_closed (with_last list)) ≤ length (each_closed list) + 1
size-with_last [] = omega arith
size-with_last (s ∷ rest) = grind (arith, divided_last s rest)

pub size-steps : (same : Text → Text → Bool) (directory list : List Text) → length (each_closed (steps_with same directory list)) ≤ 3 * length directory + length (each_closed list) + 1
size-steps same directory list =
    let shared = common_prefix_len same directory (all_but_last list) in
    grind (arith, size-append, size-parents (length directory - shared), size-drop shared (all_but_last list), size-with_last list)

-- ---- the items before the last one

pub front-take : (list : List Text) → take (length list - 1) list ≡ all_but_last list
front-take [] = refl
front-take (s ∷ rest) = grind (arith, divided_last s rest, length-with_last (s ∷ rest), take_at (all_but_last (s ∷ rest)) (last_or_empty (s ∷ rest) ∷ []))

pub size-front : (list : List Text) → length (each_closed (take (length list - 1) list)) ≤ length (each_closed list)
size-front list = rw (front-take list) (last_size list)

-- an empty last item is no `..`
pub parents-with_last : (list : List Text) → count_parents (with_last list) ≡ count_parents list
parents-with_last [] = refl
parents-with_last (s ∷ rest) = ap count_parents (divided_last s rest)

pub ruleset steps_up = (up-joined, up-size, relative-spelled)

-- ---- the steps

-- an empty item at the end of nothing changes none
pub steps-whole : (same : Text → Text → Bool) (directory list : List Text) → steps_with same directory (with_last list) ≡ steps_with same directory list
steps-whole same directory [] = refl
steps-whole same directory (s ∷ rest) = ap (steps_with same directory) (divided_last s rest)

pub steps-last : (same : Text → Text → Bool) (directory list : List Text) (common : ℕ) → 0 < length list → common ≡ common_prefix_len same directory (take (length list - 1) list)
    → replicate (length directory - common) (codes "..") ++ last_ones (length list - common) list ≡ steps_with same directory list
steps-last same directory list common some e =
    let front : common ≡ common_prefix_len same directory (all_but_last list) = e ∙ ap (common_prefix_len same directory) (front-take list) in
    let whole = whole_divided list some in
    let size = ap length whole ∙ length-with_last list in
    let fewer = common_prefix_len-le same directory (all_but_last list) in
    let at : length list - (length list - common) ≡ common = omega (arith, size, front, fewer) in
    let cut = drop-append-le common (all_but_last list) (last_or_empty list ∷ []) (omega (arith, front, fewer)) in
    let last : last_ones (length list - common) list ≡ drop common (all_but_last list) ++ last_or_empty list ∷ [] = ap (λ n. drop n list) at ∙ ap (drop common) whole ∙ cut in
    let up = replicate (length directory - common) (codes "..") in
    ap (λ tail. up ++ tail) last ∙ sym (append_assoc up (drop common (all_but_last list)) (last_or_empty list ∷ []))
    ∙ ap (λ n. replicate (length directory - n) (codes "..") ++ drop n (all_but_last list) ++ last_or_empty list ∷ []) front

pub ruleset between = (common_prefix_len-le, front-take, steps-last, size-steps, fewer_without_last, list_size)
