-- The segments that lead from a directory to a normal list, and that no others climb less.
use Rattle.std.proofs.Common.{◌≡◌, ℕ, zero, suc, ◌+◌, ◌-◌, ◌≤◌, Bool, true, false, not, cond, List, [], ◌∷◌, ◌++◌, map, length, take, drop, refl, sym, ◌∙◌, ap, arith, codes, append_assoc, inl, inr, take_at, take-append-drop, length-take-le}
use Rattle.std.proofs.lemmas.Grind.{common_steps}
use Rattle.std.proofs.lemmas.List.{take-map, map-append, length-map, length-append, take-append-le}
use Rattle.std.proofs.{lemmas.List.Sums.{common_prefix_len-le}, lemmas.Bool.{cases_lt}, Math.Numerals.{one-add}}
use Rattle.std.proofs.{lemmas.Slice.Eq.{bytes_eq-Decides}}
use Rattle.std.specs.{List.{list_all, common_prefix_len}, Cmp.Lexicographic.{bytes_decides}}
use Rattle.percent_encoding.specs.Percent.{percent_decode}
use Rattle.iref_grammar.specs.{Rules.{Text}, Texts.{is_empty, all_but_last}, PathValue.{PathValue, is_one_empty}}
use Rattle.iref_grammar.specs.NormalList.{is_name, count_parents, staying_names, ends_in_dots, closed, without_lone_empty, normal_segments, open_parents}
use Rattle.iref_grammar.specs.{PathSuffix.{same_decoded}, Relative.{last_or_empty, steps_between}}
use Rattle.iref_grammar.proofs.NormalLemmas.{parents-cons}
use Rattle.iref_grammar.proofs.JoinedLemmas.{without_last, staying-append, are_names, all_first, climbs, open-most, parents-names}
use Rattle.iref_grammar.proofs.SettledLemmas.{ends-append, last_stays, staying-settled, open-settled, normal_from}

-- a list by its decoded segments
abbrev pub decoded : List Text → List Text
decoded list = map percent_decode list

abbrev pub shared : List Text → List Text → ℕ
shared one other = common_prefix_len same_decoded one other

-- ---- the longest common beginning

pub take-step : (b : Bool) (n : ℕ) (s : Text) (rest : List Text)
    → take (cond b (1 + n) 0) (s ∷ rest) ≡ cond b (s ∷ take n rest) []
take-step true n s rest = λ i. take (one-add n i) (s ∷ rest)
take-step false n s rest = refl

pub decoded-shared : (xs ys : List Text) → decoded (take (shared xs ys) xs) ≡ decoded (take (shared xs ys) ys)
decoded-shared [] ys = refl
decoded-shared (x ∷ xs) [] = refl
decoded-shared (x ∷ xs) (y ∷ ys) = grind (arith, take-step, bytes_eq-Decides, decoded-shared xs ys)

pub shared-most : (n : ℕ) (xs ys : List Text) → n ≤ length xs → n ≤ length ys → decoded (take n xs) ≡ decoded (take n ys) → n ≤ shared xs ys
shared-most zero xs ys h k e = omega arith
shared-most (suc n) [] ys h k e = absurd (omega arith)
shared-most (suc n) (x ∷ xs) [] h k e = absurd (omega arith)
shared-most (suc n) (x ∷ xs) (y ∷ ys) h k e = grind (arith, common_steps, bytes_decides, shared-most n xs ys)

-- ---- the last item

pub divided_last : (s : Text) (rest : List Text) → all_but_last (s ∷ rest) ++ last_or_empty (s ∷ rest) ∷ [] ≡ s ∷ rest
divided_last s [] = refl
divided_last s (t ∷ rest) = λ i. s ∷ divided_last t rest i

pub long_not_lone : (list : List Text) → 2 ≤ length list → is_one_empty list ≡ false
long_not_lone list h = grind arith

pub long_without_lone : (list : List Text) → 2 ≤ length list → without_lone_empty list ≡ list
long_without_lone list h = λ i. cond (long_not_lone list h i) [] list

-- a list that is not one empty segment, divided and put together
pub together : (list : List Text) → without_lone_empty list ≡ list → without_lone_empty (all_but_last list ++ last_or_empty list ∷ []) ≡ list
together [] e = refl
together (s ∷ rest) e = ap without_lone_empty (divided_last s rest) ∙ e

-- ---- what the steps lead to

-- of an absolute path, what a list after a front leaves
pub walked : (front list tail : List Text) (n : ℕ) → staying_names list ≡ tail → open_parents list ≡ n → ends_in_dots (front ++ list) ≡ false
    → let p : PathValue = record { absolute = true; segments = front ++ list } in normal_segments p ≡ without_lone_empty (without_last n (staying_names front) ++ tail)
walked front list tail n stay opened ends = grind (arith, normal_from, staying-append)

-- the directory as far as it is shared, then the rest of the list
abbrev pub reached : List Text → List Text → Text → List Text
reached directory middle last = take (shared directory middle) directory ++ (drop (shared directory middle) middle ++ last ∷ [])

decoded-reached : (directory middle : List Text) (last : Text) → decoded (reached directory middle last) ≡ decoded (middle ++ last ∷ [])
decoded-reached directory middle last =
    let c = shared directory middle in
    let rest = drop c middle ++ last ∷ [] in
    map-append percent_decode (take c directory) rest
    ∙ (λ i. decoded-shared directory middle i ++ decoded rest)
    ∙ sym (map-append percent_decode (take c middle) rest)
    ∙ ap decoded (sym (append_assoc (take c middle) (drop c middle) (last ∷ [])) ∙ (λ i. take-append-drop c middle i ++ last ∷ []))

reached-without_lone : (directory middle : List Text) (last : Text) → decoded (without_lone_empty (reached directory middle last)) ≡ decoded (without_lone_empty (middle ++ last ∷ []))
reached-without_lone directory [] last = grind (arith, common_prefix_len-le)
reached-without_lone directory (s ∷ middle) last = grind (arith, common_steps, decoded-reached, long_without_lone)

-- what each passes, and the empty segment
pub all_last : (test : Text → Bool) → test [] ≡ true → (list : List Text) → list_all test list ≡ true → (list_all test (all_but_last list) ≡ true) × (test (last_or_empty list) ≡ true)
all_last test empty [] h = (refl, empty)
all_last test empty (s ∷ []) h = (refl, (all_first test s [] h).0)
all_last test empty (s ∷ t ∷ rest) h = grind (arith, all_last test empty (t ∷ rest))

pub all_drop : (test : Text → Bool) (n : ℕ) (list : List Text) → list_all test list ≡ true → list_all test (drop n list) ≡ true
all_drop test zero list h = h
all_drop test (suc n) [] h = refl
all_drop test (suc n) (s ∷ rest) h = all_drop test n rest (all_first test s rest h).1

-- the names of the steps, after the `..`
abbrev pub names_down : List Text → List Text → List Text
names_down directory list = drop (shared directory (all_but_last list)) (all_but_last list) ++ last_or_empty list ∷ []

abbrev pub climb_between : List Text → List Text → ℕ
climb_between directory list = length directory - shared directory (all_but_last list)

pub names_down-all : (test : Text → Bool) → test [] ≡ true → (directory list : List Text) → list_all test list ≡ true → list_all test (names_down directory list) ≡ true
names_down-all test empty directory list h = grind (arith, common_steps, all_last, all_drop)

pub names_down-names : (directory list : List Text) → are_names list ≡ true → are_names (names_down directory list) ≡ true
names_down-names = names_down-all is_name refl

pub steps-are : (directory list : List Text) → steps_between directory list ≡ climbs (climb_between directory list) ++ names_down directory list
steps-are directory list = grind (arith, common_steps)

left_over : (directory : List Text) (c : ℕ) → c ≤ length directory → without_last (length directory - c) directory ≡ take c directory
left_over directory c h = let e : length directory - (length directory - c) ≡ c = omega (arith, h) in λ i. take (e i) directory

-- what stands last is a name
ends-steps : (front list : List Text) → are_names list ≡ true → ends_in_dots (front ++ last_or_empty list ∷ []) ≡ false
ends-steps front list h = ends-append front (last_or_empty list) [] ∙ ap not (all_last is_name refl list h).1

-- a list that walks as the steps do leads to the list
leads_as : (front list walk before : List Text) → are_names list ≡ true → without_lone_empty list ≡ list
    → staying_names walk ≡ names_down (staying_names front) list → open_parents walk ≡ climb_between (staying_names front) list
    → walk ≡ before ++ last_or_empty list ∷ []
    → let p : PathValue = record { absolute = true; segments = front ++ walk } in decoded (normal_segments p) ≡ decoded list
leads_as front list walk before h lone stay opened last =
    let directory = staying_names front in
    let middle = all_but_last list in
    let within = common_prefix_len-le same_decoded directory middle in
    let ends : ends_in_dots (front ++ walk) ≡ false =
    (λ i. ends_in_dots (front ++ last i)) ∙ (λ i. ends_in_dots (sym (append_assoc front before (last_or_empty list ∷ [])) i)) ∙ ends-steps (front ++ before) list h in
    ap decoded (walked front walk (names_down directory list) (climb_between directory list) stay opened ends)
    ∙ (λ i. decoded (without_lone_empty (left_over directory (shared directory middle) within.0 i ++ names_down directory list)))
    ∙ reached-without_lone directory middle (last_or_empty list)
    ∙ ap decoded (together list lone)

staying-steps : (directory list : List Text) → are_names list ≡ true → staying_names (steps_between directory list) ≡ names_down directory list
staying-steps directory list h = grind (arith, common_steps, staying-settled, names_down-names)

open-steps : (directory list : List Text) → are_names list ≡ true → open_parents (steps_between directory list) ≡ climb_between directory list
open-steps directory list h = grind (arith, common_steps, open-settled, names_down-names)

abbrev before_last : List Text → List Text → List Text
before_last directory list = climbs (climb_between directory list) ++ drop (shared directory (all_but_last list)) (all_but_last list)

-- the steps lead to the list, also after `.`
pub steps_lead : (front list : List Text) → are_names list ≡ true → without_lone_empty list ≡ list
    → let p : PathValue = record { absolute = true; segments = front ++ steps_between (staying_names front) list } in decoded (normal_segments p) ≡ decoded list
steps_lead front list h lone = grind (arith, common_steps, leads_as, staying-steps, open-steps)

pub dotted_steps_lead : (front list : List Text) → are_names list ≡ true → without_lone_empty list ≡ list
    → let p : PathValue = record { absolute = true; segments = front ++ codes "." ∷ steps_between (staying_names front) list } in decoded (normal_segments p) ≡ decoded list
unfolding staying_names
dotted_steps_lead front list h lone =
    let directory = staying_names front in
    leads_as front list (codes "." ∷ steps_between directory list) (codes "." ∷ before_last directory list) h lone (staying-steps directory list h) (open-steps directory list h) refl

-- how many `..` the steps have
pub parents-steps : (directory list : List Text) → are_names list ≡ true → count_parents (steps_between directory list) ≡ climb_between directory list
parents-steps directory list h = grind (arith, common_steps, steps-are, parents-names, names_down-names)

pub parents-dotted : (list : List Text) → count_parents (codes "." ∷ list) ≡ count_parents list
parents-dotted list = parents-cons (codes ".") list ∙ omega arith

-- ---- no list climbs less

length-some : (list : List Text) → is_empty list ≡ false → 1 ≤ length list
length-some list h = grind arith

-- a list that begins with n segments of the directory and goes on shares them
shared_enough : (directory kept tail list : List Text) (n : ℕ) → take n directory ≡ kept → length kept ≡ n → n ≤ length directory → 1 ≤ length tail
    → decoded (kept ++ tail) ≡ decoded list → n ≤ shared directory (all_but_last list)
shared_enough directory kept tail [] n front size within some same =
    let joined = length-append kept tail in
    let mapped = length-map (kept ++ tail) percent_decode in
    let none : length (decoded (kept ++ tail)) ≡ 0 = ap length same in
    absurd (omega (arith, joined, mapped, none, some))
shared_enough directory kept tail (s ∷ rest) n front size within some same =
    let list = s ∷ rest in
    let middle = all_but_last list in
    let joined = length-append kept tail in
    let mapped = length-map (kept ++ tail) percent_decode in
    let other = length-map list percent_decode in
    let ended = length-append middle (last_or_empty list ∷ []) in
    let put = ap length (divided_last s rest) in
    let sizes = ap length same in
    let long : n ≤ length middle = omega (arith, joined, mapped, other, ended, put, sizes, size, some) in
    let fronts : decoded (take n directory) ≡ decoded (take n middle) =
    ap decoded (front ∙ sym (take_at kept tail n size)) ∙ sym (take-map percent_decode n (kept ++ tail)) ∙ ap (take n) same ∙ take-map percent_decode n list
    ∙ (λ i. decoded (take n (sym (divided_last s rest) i))) ∙ ap decoded (take-append-le n middle (last_or_empty list ∷ []) long) in
    shared-most n directory middle within long fronts

closed_long : (list : List Text) → 1 ≤ length list → closed list ≡ list ++ [] ∷ []
closed_long list h = grind arith

-- what is left of the directory is shared, if the list leads on from there
kept_shared : (front : List Text) (s : Text) (rest list : List Text) (ends : Bool) → ends_in_dots (s ∷ rest) ≡ ends
    → (let p : PathValue = record { absolute = true; segments = front ++ s ∷ rest } in decoded (normal_segments p) ≡ decoded list)
    → 1 ≤ length (staying_names front) - open_parents (s ∷ rest)
    → length (staying_names front) - open_parents (s ∷ rest) ≤ shared (staying_names front) (all_but_last list)
kept_shared front s rest list true ends leads some =
    let walk = s ∷ rest in
    let directory = staying_names front in
    let n = length directory - open_parents walk in
    let kept = take n directory in
    let tail = staying_names walk ++ [] ∷ [] in
    let size : length kept ≡ n = length-take-le n directory (omega arith) in
    let joined = length-append kept (staying_names walk) in
    let more = length-append kept tail in
    let ended = length-append (staying_names walk) ([] ∷ []) in
    let long : 1 ≤ length (kept ++ staying_names walk) = omega (arith, joined, size, some) in
    let longer : 2 ≤ length (kept ++ tail) = omega (arith, more, ended, size, some) in
    let nonempty : 1 ≤ length tail = omega (arith, ended) in
    let is =
    normal_from (record { absolute = true; segments = front ++ walk }) true (kept ++ staying_names walk) (ends-append front s rest ∙ ends) (staying-append front walk) in
    let reads = is ∙ ap without_lone_empty (closed_long (kept ++ staying_names walk) long ∙ append_assoc kept (staying_names walk) ([] ∷ [])) ∙ long_without_lone (kept ++ tail) longer in
    shared_enough directory kept tail list n refl size (omega arith) nonempty (sym (ap decoded reads) ∙ leads)
kept_shared front s rest list false ends leads some =
    let walk = s ∷ rest in
    let directory = staying_names front in
    let n = length directory - open_parents walk in
    let kept = take n directory in
    let tail = staying_names walk in
    let size : length kept ≡ n = length-take-le n directory (omega arith) in
    let more = length-append kept tail in
    let nonempty : 1 ≤ length tail = length-some tail (last_stays s rest ends) in
    let longer : 2 ≤ length (kept ++ tail) = omega (arith, more, nonempty, size, some) in
    let is =
    normal_from (record { absolute = true; segments = front ++ walk }) false (kept ++ tail) (ends-append front s rest ∙ ends) (staying-append front walk) in
    let reads = is ∙ long_without_lone (kept ++ tail) longer in
    shared_enough directory kept tail list n refl size (omega arith) nonempty (sym (ap decoded reads) ∙ leads)

-- where a list after a front leads to another list, it has as many `..` as the steps
pub steps_least : (front : List Text) (s : Text) (rest list : List Text)
    → (let p : PathValue = record { absolute = true; segments = front ++ s ∷ rest } in decoded (normal_segments p) ≡ decoded list)
    → climb_between (staying_names front) list ≤ count_parents (s ∷ rest)
steps_least front s rest list leads =
    let directory = staying_names front in
    let walk = s ∷ rest in
    let n = length directory - open_parents walk in
    let most = open-most walk in
    let enough : n ≤ shared directory (all_but_last list) = elim (cases_lt 0 n) [
      | inr none ↦ omega (arith, none)
      | inl some ↦ kept_shared front s rest list (ends_in_dots walk) refl leads some
    ] in
    omega (arith, most, enough)
