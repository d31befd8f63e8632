-- Which normal lists the steps from a directory lead to: those that have at least the directory's leading `..`.
use Rattle.std.proofs.Common.{◌≡◌, ℕ, ◌+◌, ◌-◌, ◌≤◌, Bool, true, false, cond, List, [], ◌∷◌, ◌++◌, length, take, refl, sym, ◌∙◌, ap, arith}
use Rattle.std.proofs.lemmas.Grind.{common_steps}
use Rattle.iref_grammar.specs.{Rules.{Text}, Texts.{is_empty}}
use Rattle.iref_grammar.specs.NormalList.{count_parents, kept_segments, staying_names, normal_segments, without_lone_empty, open_parents}
use Rattle.iref_grammar.specs.Relativized.{steps_by_text, shortened}
use Rattle.iref_grammar.proofs.JoinedLemmas.{without_last, are_names, are_names-staying, climbs, parents-names}
use Rattle.iref_grammar.proofs.SettledLemmas.{leading, kept-is, normal_settled, normal-is, lone-normal}
use Rattle.iref_grammar.proofs.{WalkLemmas.{ended, reached}, WeightLemmas.{path}, DividedLemmas.{normal-some}}
use Rattle.iref_grammar.proofs.RelativePathLemmas.{steps_lead_there}

-- ---- how many `..` a list has

parents-climbs : (n : ℕ) (names : List Text) → are_names names ≡ true → count_parents (climbs n ++ names) ≡ n
parents-climbs n names are = grind (arith, common_steps, parents-names)

parents-front : (n : ℕ) (list : List Text) → n ≤ count_parents (climbs n ++ list)
parents-front n list = grind (arith, common_steps)

parents-lone : (list : List Text) → count_parents (without_lone_empty list) ≡ count_parents list
parents-lone list = grind arith

pub parents-kept : (absolute : Bool) (segments : List Text) → count_parents (kept_segments (path absolute segments)) ≡ leading absolute segments
parents-kept absolute segments = ap count_parents (kept-is absolute segments) ∙ parents-climbs (leading absolute segments) (staying_names segments) (are_names-staying segments)

-- what is reached from a directory has at least its leading `..`
pub reached_high : (absolute : Bool) (directory walk : List Text) → is_empty walk ≡ false → leading absolute directory ≤ count_parents (normal_segments (path absolute (directory ++ walk)))
reached_high absolute directory walk some =
    let more = cond absolute 0 (open_parents walk - length (staying_names directory)) in
    let is = ap count_parents (normal-some absolute directory walk some) ∙ parents-lone (reached absolute directory (open_parents walk) (ended walk)) in
    let front = parents-front (leading absolute directory + more) (without_last (open_parents walk) (staying_names directory) ++ ended walk) in
    omega arith

-- ---- lists that have at least the directory's leading `..`

-- a list as it is reached from a directory
record IsReached (absolute : Bool) (directory list : List Text) : Type 0 where
  parents : ℕ
  first : Text
  more : List Text
  names : are_names (first ∷ more) ≡ true
  is : list ≡ without_lone_empty (reached absolute directory parents (first ∷ more))

reached-as : (absolute : Bool) (directory : List Text) (n : ℕ) (t : Text) (more : List Text) → leading absolute directory ≤ n → (absolute ≡ true → n ≡ 0)
    → reached absolute directory (length (staying_names directory) + (n - leading absolute directory)) (t ∷ more) ≡ climbs n ++ t ∷ more
reached-as true directory n t more high rooted =
    let names = staying_names directory in
    let none : length names - (length names + (n - 0)) ≡ 0 = omega arith in
    (λ i. take (none i) names ++ t ∷ more) ∙ (λ i. climbs (sym (rooted refl) i) ++ t ∷ more)
reached-as false directory n t more high rooted =
    let names = staying_names directory in
    let e = leading false directory in
    let parents = length names + (n - e) in
    let none : length names - parents ≡ 0 = omega arith in
    let all : e + (parents - length names) ≡ n = omega arith in
    (λ i. climbs (all i) ++ (take (none i) names ++ t ∷ more))

settled_reached : (absolute : Bool) (directory list : List Text) (n : ℕ) (names : List Text) → are_names names ≡ true → list ≡ climbs n ++ names → (absolute ≡ true → n ≡ 0) → (is_empty names ≡ true → n ≡ 0)
    → without_lone_empty list ≡ list → leading absolute directory ≤ n → IsReached absolute directory list
settled_reached absolute directory list n [] are is rooted ends lone high = record {
  parents = length (staying_names directory) + (n - leading absolute directory);
  first = [];
  more = [];
  names = refl;
  is = is ∙ (λ i. climbs (ends refl i) ++ []) ∙ (λ i. without_lone_empty (climbs (sym (ends refl) i) ++ [] ∷ [])) ∙ ap without_lone_empty (sym (reached-as absolute directory n [] [] high rooted));
}
settled_reached absolute directory list n (t ∷ more) are is rooted ends lone high = record {
  parents = length (staying_names directory) + (n - leading absolute directory);
  first = t;
  more = more;
  names = are;
  is = sym lone ∙ ap without_lone_empty (is ∙ sym (reached-as absolute directory n t more high rooted));
}

normal_reached : (absolute : Bool) (directory segments : List Text) → leading absolute directory ≤ count_parents (normal_segments (path absolute segments)) → IsReached absolute directory (normal_segments (path absolute segments))
normal_reached absolute directory segments high =
    let list = normal_segments (path absolute segments) in
    let s = normal_settled absolute segments in
    let is : list ≡ climbs s.climb ++ s.names = normal-is absolute segments ∙ s.divided in
    let size : count_parents list ≡ s.climb = ap count_parents is ∙ parents-climbs s.climb s.names s.are_names in
    settled_reached absolute directory list s.climb s.names s.are_names is s.rooted s.ends (lone-normal (path absolute segments)) (omega arith)

-- the steps lead to each of them
pub steps_lead : (absolute : Bool) (directory segments : List Text) → leading absolute directory ≤ count_parents (normal_segments (path absolute segments)) →
    let list = shortened (steps_by_text (kept_segments (path absolute directory)) (normal_segments (path absolute segments))) in
    (is_empty list ≡ false) × (normal_segments (path absolute (directory ++ list)) ≡ normal_segments (path absolute segments))
steps_lead absolute directory segments high =
    let r = normal_reached absolute directory segments high in
    rw (kept-is absolute directory) (steps_lead_there absolute directory r.parents r.first r.more (normal_segments (path absolute segments)) r.names r.is)
