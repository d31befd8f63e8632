-- The normal list of segments among which no `..` is.
use Rattle.std.proofs.Common.{◌≡◌, ◌+◌, ℕ, Bool, true, false, List, [], ◌∷◌, ◌++◌, append_assoc, length, ap, refl, sym, ◌∙◌, arith, Greater, Less, ◌==◌, if◌then◌else◌}
use Rattle.std.proofs.{lemmas.Bool.Decides.{nat_tests}, lemmas.List.{map-append}}
use Rattle.std.proofs.lemmas.List.Splits.{slice_split-cons_no, slice_split-cons_yes}
use Rattle.std.proofs.lemmas.Slice.Eq.{bytes_eq-Decides}
use Rattle.std.specs.{Cmp.Lexicographic.{slice_cmp}, List.{list_any}}
use Rattle.iref_grammar.specs.{Grammar.{slash}, Keys.{text_order}, PathValue.{PathValue}, Rules.{Text}}
use Rattle.iref_grammar.specs.Texts.{is_empty, pieces_at}
use Rattle.iref_grammar.specs.NormalList.{ends_in_dots, is_dot, is_dot_dot, normal_segments, without_lone_empty}
use Rattle.iref_grammar.specs.NormalReading.{closing, leading_parents, open_before, staying_before}
use Rattle.percent_encoding.specs.Percent.{percent_decode}
use Rattle.percent_encoding.proofs.PercentLemmas.{length-percent_decode, percent_decode-nil}
use Rattle.iref_grammar.proofs.StayingLemmas.{open_before-append, staying_before-append}
use Rattle.iref_grammar.proofs.{ItemLemmas.{normal_segments-is}, PieceLemmas.{some_piece}, SettledLemmas.{ends-append}}
use Rattle.iref_parse.specs.Dots.{begins_with, has_dot_pair, is_some_dotted}
use Rattle.iref_path.specs.{Named.{named}, Pieces.{ShareFront}}
use Rattle.iref_path.proofs.{DotlessLemmas.{dotless_name}, FrontOrderLemmas.{same_order}}
use Rattle.iref_path.proofs.OrderLemmas.{decoded, flags_decide, lists_decide}

-- ---- the list

pub none_open : (list : List Text) → list_any is_dot_dot list ≡ false → open_before list 0 ≡ 0
none_open [] h = refl
none_open (s ∷ rest) h = grind (arith, none_open rest)

items_named : (list : List Text) → list_any is_dot_dot list ≡ false → staying_before list 0 ++ closing (ends_in_dots list) ≡ named list
items_named [] h = refl
items_named (s ∷ []) h = grind (arith, none_open)
items_named (s ∷ t ∷ rest) h = grind (arith, none_open (t ∷ rest), items_named (t ∷ rest))

pub dotless_named : (list : List Text) → is_some_dotted list ≡ false → named list ≡ list
dotless_named [] h = refl
dotless_named (s ∷ rest) h = grind (arith, dotless_name, dotless_named rest)

-- none of them is `..`
pub dotless_parents : (list : List Text) → is_some_dotted list ≡ false → list_any is_dot_dot list ≡ false
dotless_parents [] h = refl
dotless_parents (s ∷ rest) h = grind (arith, dotless_name, dotless_parents rest)

-- ---- two dots side by side

-- a text whose first segment begins with a byte begins with it
byte_of_first : (c : ℕ) (text q : Text) (qs : List Text) → pieces_at slash text ≡ (c ∷ q) ∷ qs → begins_with 0x2E text ≡ (c == 0x2E)
byte_of_first c [] q qs h = absurd (cc h)
byte_of_first c (d ∷ ds) q qs h = let some = some_piece slash ds in grind (arith, nat_tests)

two_dots : (c : ℕ) (p : Text) → is_dot_dot (c ∷ p) ≡ true → (c ≡ 0x2E) × (p ≡ 0x2E ∷ [])
two_dots c [] h = grind (arith, bytes_eq-Decides)
two_dots c (d ∷ p) h = grind (arith, bytes_eq-Decides)

-- the first segment is no `..`
module _ (c : ℕ) (cs : Text) (h : has_dot_pair (c ∷ cs) ≡ false) (p : Text) (ps : List Text) (first : pieces_at slash cs ≡ p ∷ ps) where
  no_parent : (b : Bool) → is_dot_dot (c ∷ p) ≡ b → is_dot_dot (c ∷ p) ≡ false
  no_parent false e = e
  no_parent true e =
      let two = two_dots c p e in
      let dot = byte_of_first 0x2E cs [] ps (first ∙ ap (λ q. q ∷ ps) two.1) in
      let same = two.0 in
      absurd (grind (arith, nat_tests))

module _ (c : ℕ) (cs : Text) (h : has_dot_pair (c ∷ cs) ≡ false) (others : list_any is_dot_dot (pieces_at slash cs) ≡ false) where
  parents_step : (b : Bool) → (c == slash) ≡ b → list_any is_dot_dot (pieces_at slash (c ∷ cs)) ≡ false
  parents_step true e = grind (arith, slice_split-cons_yes (λ c. c == slash) c cs e)
  parents_step false e =
      let some = some_piece slash cs in
      let whole = slice_split-cons_no (λ c. c == slash) c cs e in
      let first = no_parent c cs h some.0 some.1 some.2 (is_dot_dot (c ∷ some.0)) refl in
      grind arith

pub paired-parents : (text : Text) → has_dot_pair text ≡ false → list_any is_dot_dot (pieces_at slash text) ≡ false
paired-parents [] h = refl
paired-parents (c ∷ cs) h = let others : has_dot_pair cs ≡ false = grind arith in parents_step c cs h (paired-parents cs others) (c == slash) refl

-- ---- the first item

some_named : (s : Text) (rest : List Text) → (p : Text) × (ps : List Text) × (named (s ∷ rest) ≡ p ∷ ps)
some_named s [] = elim (is_dot s) as (λ b. (p : Text) × (ps : List Text) × ((if b then [] ∷ [] else s ∷ []) ≡ p ∷ ps)) [ true ↦ ([], [], refl) | false ↦ (s, [], refl) ]
some_named s (t ∷ rest) =
    elim (is_dot s) as (λ b. (p : Text) × (ps : List Text) × ((if b then named (t ∷ rest) else s ∷ named (t ∷ rest)) ≡ p ∷ ps)) [ true ↦ some_named t rest | false ↦ (s, named (t ∷ rest), refl) ]

-- a `.` is passed over
pub named-dot : (text segment others : Text) → pieces_at slash text ≡ segment ∷ pieces_at slash others → is_dot segment ≡ true → named (pieces_at slash text) ≡ named (pieces_at slash others)
named-dot text segment others e h = let some = some_piece slash others in grind arith

-- so is a `./` in front
pub named-dot_slash : (rest : Text) → named (pieces_at slash (0x2E ∷ slash ∷ rest)) ≡ named (pieces_at slash rest)
named-dot_slash rest = named-dot (0x2E ∷ slash ∷ rest) (0x2E ∷ []) rest refl refl

pub length-dot_slash : (rest : Text) → length (pieces_at slash (0x2E ∷ slash ∷ rest)) ≡ length (pieces_at slash rest) + 1
length-dot_slash rest = omega arith

pub longer_left : (text : Text) → slice_cmp text_order (decoded (named (pieces_at slash text))) [] ≡ Greater
longer_left text = let some = some_piece slash text in let named = some_named some.0 some.1 in grind arith

pub longer_right : (text : Text) → slice_cmp text_order [] (decoded (named (pieces_at slash text))) ≡ Less
longer_right text = let some = some_piece slash text in let named = some_named some.0 some.1 in grind arith

-- ---- behind a front, in which anything may stand

-- what is in the normal list of a front that no `..` follows
abbrev of_front : Bool → List Text → List Text
of_front absolute front = leading_parents absolute (open_before front 0) ++ staying_before front 0

normal_segments-behind : (absolute : Bool) (front list : List Text) → is_empty list ≡ false → list_any is_dot_dot list ≡ false
    → normal_segments (record { absolute = absolute; segments = front ++ list }) ≡ without_lone_empty (of_front absolute front ++ named list)
normal_segments-behind absolute front [] some h = absurd (cc some)
normal_segments-behind absolute front (s ∷ rest) some h =
    let none = none_open (s ∷ rest) h in
    let all = items_named (s ∷ rest) h in
    let ends = ends-append front s rest in
    grind (arith, normal_segments-is, open_before-append, staying_before-append, append_assoc)

named_some : (list : List Text) → is_empty list ≡ false → is_empty (named list) ≡ false
named_some [] h = h
named_some (s ∷ rest) h = ap is_empty (some_named s rest).2

-- the bytes of a text that is not empty are not empty
some_decoded : (c : ℕ) (cs : Text) → (d : ℕ) × (ds : Text) × (percent_decode (c ∷ cs) ≡ d ∷ ds)
some_decoded c cs = by (percent_decode (c ∷ cs)) refl
  where
    by : (bytes : Text) → percent_decode (c ∷ cs) ≡ bytes → (d : ℕ) × (ds : Text) × (percent_decode (c ∷ cs) ≡ d ∷ ds)
    by [] e = absurd (omega (arith, (length-percent_decode (c ∷ cs)).1, ap length e))
    by (d ∷ ds) e = (d, ds, e)

not_lone : (p : Text) (front : List Text) (x : Text) (xs : List Text) → without_lone_empty (p ∷ (front ++ x ∷ xs)) ≡ p ∷ (front ++ x ∷ xs)
not_lone p [] x xs = grind arith
not_lone p (q ∷ front) x xs = grind arith

-- one empty segment is as far from other names as the empty list
behind_front : (front xs ys : List Text) → is_empty xs ≡ false → is_empty ys ≡ false
    → slice_cmp text_order (decoded (without_lone_empty (front ++ xs))) (decoded (without_lone_empty (front ++ ys))) ≡ slice_cmp text_order (decoded xs) (decoded ys)
behind_front [] [] ys h k = absurd (cc h)
behind_front [] (x ∷ xs) [] h k = absurd (cc k)
behind_front [] ([] ∷ []) ([] ∷ []) h k = grind (arith, percent_decode-nil)
behind_front [] ([] ∷ []) ([] ∷ t ∷ ys) h k = grind (arith, percent_decode-nil)
behind_front [] ([] ∷ []) ((d ∷ ds) ∷ ys) h k = let some = some_decoded d ds in grind (arith, percent_decode-nil)
behind_front [] ([] ∷ s ∷ xs) ([] ∷ []) h k = grind (arith, percent_decode-nil)
behind_front [] ((c ∷ cs) ∷ xs) ([] ∷ []) h k = let some = some_decoded c cs in grind (arith, percent_decode-nil)
behind_front [] ([] ∷ s ∷ xs) ([] ∷ t ∷ ys) h k = refl
behind_front [] ([] ∷ s ∷ xs) ((d ∷ ds) ∷ ys) h k = refl
behind_front [] ((c ∷ cs) ∷ xs) ([] ∷ t ∷ ys) h k = refl
behind_front [] ((c ∷ cs) ∷ xs) ((d ∷ ds) ∷ ys) h k = refl
behind_front (p ∷ front) [] ys h k = absurd (cc h)
behind_front (p ∷ front) (x ∷ xs) [] h k = absurd (cc k)
behind_front (p ∷ front) (x ∷ xs) (y ∷ ys) h k =
    (λ i. slice_cmp text_order (decoded (not_lone p front x xs i)) (decoded (not_lone p front y ys i)))
    ∙ (λ i. slice_cmp text_order (map-append percent_decode (p ∷ front) (x ∷ xs) i) (map-append percent_decode (p ∷ front) (y ∷ ys) i))
    ∙ same_order (decoded (p ∷ front)) (decoded (x ∷ xs)) (decoded (y ∷ ys))

some_pieces : (text : Text) → is_empty (pieces_at slash text) ≡ false
some_pieces text = ap is_empty (some_piece slash text).2

-- what two paths begin with does not count, where no `..` follows it
pub order_behind : (p q : PathValue) (left right below rest : Text) → p.absolute ≡ q.absolute → p.segments ≡ pieces_at slash left → q.segments ≡ pieces_at slash right
    → ShareFront (pieces_at slash left) (pieces_at slash right) (pieces_at slash below) (pieces_at slash rest)
    → list_any is_dot_dot (pieces_at slash below) ≡ false → list_any is_dot_dot (pieces_at slash rest) ≡ false
    → slice_cmp text_order (decoded (named (pieces_at slash below))) (decoded (named (pieces_at slash rest))) ≡ slice_cmp text_order (decoded (normal_segments p)) (decoded (normal_segments q))
order_behind p q left right below rest flags e f shared h k =
    let front = of_front p.absolute shared.front in
    let names = named (pieces_at slash below) in
    let others = named (pieces_at slash rest) in
    let one : normal_segments p ≡ without_lone_empty (front ++ names) =
    ap (λ list. normal_segments (record { absolute = p.absolute; segments = list })) (e ∙ shared.first)
    ∙ normal_segments-behind p.absolute shared.front (pieces_at slash below) (some_pieces below) h in
    let two : normal_segments q ≡ without_lone_empty (front ++ others) =
    (λ i. normal_segments (record { absolute = sym flags i; segments = (f ∙ shared.second) i }))
    ∙ normal_segments-behind p.absolute shared.front (pieces_at slash rest) (some_pieces rest) k in
    sym (behind_front front names others (named_some _ (some_pieces below)) (named_some _ (some_pieces rest)))
    ∙ sym (λ i. slice_cmp text_order (decoded (one i)) (decoded (two i)))

pub ruleset without_parents = (dotless_named, dotless_parents, paired-parents)

pub ruleset whole_lists = (order_behind, flags_decide, lists_decide)

pub ruleset dot_slash = (length-dot_slash, named-dot_slash)
