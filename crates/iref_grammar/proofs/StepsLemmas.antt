-- The steps from a directory to a normal list: where they lead, and how long they are.
use Rattle.std.proofs.Common.{◌≡◌, ℕ, suc, ◌+◌, ◌-◌, ◌≤◌, true, false, List, [], ◌∷◌, ◌++◌, length, take, drop, refl, sym, ◌∙◌, ap, arith, codes, append_assoc, length-append, bytes_eq}
use Rattle.std.proofs.{lemmas.List.{drop-append-le}, lemmas.List.Sums.{common_prefix_len-le}}
use Rattle.std.proofs.{Math.Seq.{drop-append-add}, lemmas.Slice.Eq.{bytes_eq-Decides}}
use Rattle.std.specs.{List.{common_prefix_len}, Cmp.Lexicographic.{bytes_decides}}
use Rattle.iref_grammar.specs.{Rules.{Text}, Texts.{all_but_last}}
use Rattle.iref_grammar.specs.{NormalList.{without_lone_empty, is_name}, Relative.{last_or_empty}}
use Rattle.iref_grammar.specs.Relativized.{steps_by_text}
use Rattle.iref_grammar.proofs.{JoinedLemmas.{are_names, all_first, climbs}, LeadingLemmas.{divided_last, take-step}}

-- ---- the longest common beginning, by text

abbrev pub common : List Text → List Text → ℕ
common one other = common_prefix_len bytes_eq one other

pub same_text : (s : Text) → bytes_eq s s ≡ true
same_text s = (bytes_decides s s).1 refl

pub common-append : (front one other : List Text) → common (front ++ one) (front ++ other) ≡ length front + common one other
common-append [] one other = omega arith
common-append (s ∷ front) one other = grind (arith, same_text, common-append front one other)

pub take-common : (one other : List Text) → take (common one other) one ≡ take (common one other) other
take-common [] other = refl
take-common (x ∷ one) [] = refl
take-common (x ∷ one) (y ∷ other) = grind (arith, take-step, bytes_eq-Decides, take-common one other)

-- names and `..` have nothing in common
name_other : (s : Text) → is_name s ≡ true → bytes_eq s (codes "..") ≡ false
name_other s h = grind arith

pub common-climbs : (names : List Text) (n : ℕ) (list : List Text) → are_names names ≡ true → common names (climbs (suc n) ++ list) ≡ 0
common-climbs [] n list h = refl
common-climbs (s ∷ names) n list h = grind (arith, all_first is_name, name_other)

-- ---- the last segment of lists joined

pub all_but_last-append : (front : List Text) (s : Text) (rest : List Text) → all_but_last (front ++ s ∷ rest) ≡ front ++ all_but_last (s ∷ rest)
all_but_last-append [] s rest = refl
all_but_last-append (f ∷ []) s rest = refl
all_but_last-append (f ∷ g ∷ front) s rest = ap (λ l. f ∷ l) (all_but_last-append (g ∷ front) s rest)

pub last-append : (front : List Text) (s : Text) (rest : List Text) → last_or_empty (front ++ s ∷ rest) ≡ last_or_empty (s ∷ rest)
last-append [] s rest = refl
last-append (f ∷ []) s rest = refl
last-append (f ∷ g ∷ front) s rest = last-append (g ∷ front) s rest

pub length-front : (s : Text) (rest : List Text) → length (all_but_last (s ∷ rest)) + 1 ≡ length (s ∷ rest)
length-front s rest = let is = length-append (all_but_last (s ∷ rest)) (last_or_empty (s ∷ rest) ∷ []) in let same = ap length (divided_last s rest) in omega (arith, is, same)

-- ---- the steps

-- a list that is one empty segment leads as the empty list does
pub steps-lone : (directory list : List Text) → steps_by_text directory (without_lone_empty list) ≡ steps_by_text directory list
steps-lone directory list = grind arith

abbrev pub steps_from : List Text → List Text → List Text
steps_from more list = climbs (length more - common more (all_but_last list)) ++ drop (common more (all_but_last list)) list

drop-front : (n : ℕ) (s : Text) (rest : List Text) → n ≤ length (all_but_last (s ∷ rest)) → drop n (all_but_last (s ∷ rest)) ++ last_or_empty (s ∷ rest) ∷ [] ≡ drop n (s ∷ rest)
drop-front n s rest h = sym (drop-append-le n (all_but_last (s ∷ rest)) (last_or_empty (s ∷ rest) ∷ []) h) ∙ ap (drop n) (divided_last s rest)

-- what directory and list begin with alike does not count
pub steps-front : (front more : List Text) (s : Text) (rest : List Text) → steps_by_text (front ++ more) (front ++ s ∷ rest) ≡ steps_from more (s ∷ rest)
steps-front front more s rest =
    let middle = all_but_last (s ∷ rest) in
    let c = common more middle in
    let shared : common (front ++ more) (all_but_last (front ++ s ∷ rest)) ≡ length front + c = ap (common (front ++ more)) (all_but_last-append front s rest) ∙ common-append front more middle in
    let up : length (front ++ more) - (length front + c) ≡ length more - c = (let size = length-append front more in omega (arith, size)) in
    let down : drop (length front + c) (all_but_last (front ++ s ∷ rest)) ≡ drop c middle = ap (drop (length front + c)) (all_but_last-append front s rest) ∙ drop-append-add front middle c in
    append_assoc (climbs (length (front ++ more) - common (front ++ more) (all_but_last (front ++ s ∷ rest)))) (drop (common (front ++ more) (all_but_last (front ++ s ∷ rest))) (all_but_last (front ++ s ∷ rest))) (last_or_empty (front ++ s ∷ rest) ∷ [])
    ∙ (λ i. climbs (length (front ++ more) - shared i) ++ (drop (shared i) (all_but_last (front ++ s ∷ rest)) ++ last-append front s rest i ∷ []))
    ∙ (λ i. climbs (up i) ++ (down i ++ last_or_empty (s ∷ rest) ∷ []))
    ∙ ap (λ l. climbs (length more - c) ++ l) (drop-front c s rest (common_prefix_len-le bytes_eq more middle).1)
