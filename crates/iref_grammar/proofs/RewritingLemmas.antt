-- `remove_dot_segments` on the text of an absolute path gives the text of its normal path.
use Rattle.std.proofs.Common.{◌≡◌, ℕ, zero, suc, ◌+◌, ◌≤◌, Bool, true, false, not, List, [], ◌∷◌, ◌++◌, length, refl, sym, ◌∙◌, ap, subst, arith, append_assoc, codes, bytes_eq, true≢false}
use Rattle.std.proofs.{lemmas.Grind.{common_steps}, lemmas.List.{append-nil, length-append}}
use Rattle.std.proofs.lemmas.Slice.Eq.{bytes_eq-Decides}
use Rattle.std.specs.{List.{list_all, join_with_byte}, Char.{char_set_contains}}
use Rattle.iref_grammar.specs.{declared.context.PathContext.{PathContext}, Rules.{Text}, Grammar.{slash}}
use Rattle.iref_grammar.specs.Texts.{is_empty, before, pieces_at, begins_with, all_but_last}
use Rattle.iref_grammar.specs.PathValue.{PathValue, spell_path, is_one_empty}
use Rattle.iref_grammar.specs.Guard.{guarded}
use Rattle.iref_grammar.specs.NormalList.{is_name, ends_in_dots, without_lone_empty, normal_segments, normal}
use Rattle.iref_grammar.specs.{NormalReading.{staying_before, closing, items}, PathSteps.{normalized}}
use Rattle.iref_grammar.specs.DotSegments.{Buffers, without_last_segment, rewritten_once, rewritten, RemovesDotSegments, dot_segments_removed}
use Rattle.iref_grammar.proofs.TextLemmas.{lacks, first_of_both, second_of_both, pieces_at-join, list_all-snoc}
use Rattle.iref_grammar.proofs.CutLemmas.{before-no, before-yes}
use Rattle.iref_grammar.proofs.StayingLemmas.{staying_before-append, takes_last}
use Rattle.iref_grammar.proofs.{ItemLemmas.{normal_segments-is, some_name}, StepSegmentLemmas.{in-staying}}

-- each segment with a `/` before it
abbrev pub slashed : List Text → Text
slashed [] = []
slashed (s ∷ rest) = slash ∷ s ++ slashed rest

slashed-joined : (s : Text) (rest : List Text) → slash ∷ join_with_byte slash (s ∷ rest) ≡ slashed (s ∷ rest)
slashed-joined s [] = ap (λ x. slash ∷ x) (sym (append-nil s))
slashed-joined s (t ∷ rest) = ap (λ x. slash ∷ s ++ x) (slashed-joined t rest)

slashed-append : (front back : List Text) → slashed (front ++ back) ≡ slashed front ++ slashed back
slashed-append [] back = refl
slashed-append (s ∷ front) back = grind (arith, common_steps, slashed-append front back)

slashed-snoc : (front : List Text) (s : Text) → slashed front ++ slash ∷ s ≡ slashed (front ++ s ∷ [])
slashed-snoc front s = ap (λ x. slashed front ++ slash ∷ x) (sym (append-nil s)) ∙ sym (slashed-append front (s ∷ []))

-- the output without its last segment
joined-shorter : (names : List Text) → join_with_byte slash ([] ∷ all_but_last names) ≡ slashed (all_but_last names)
joined-shorter [] = refl
joined-shorter (s ∷ []) = refl
joined-shorter (s ∷ t ∷ names) = slashed-joined s (all_but_last (t ∷ names))

without_last-slashed : (names : List Text) → list_all (lacks slash) names ≡ true → without_last_segment (slashed names) ≡ slashed (all_but_last names)
without_last-slashed [] h = refl
without_last-slashed (s ∷ names) h =
    let whole : slashed (s ∷ names) ≡ join_with_byte slash ([] ∷ s ∷ names) = sym (slashed-joined s names) in
    let pieces : pieces_at slash (slashed (s ∷ names)) ≡ [] ∷ s ∷ names = ap (pieces_at slash) whole ∙ pieces_at-join slash [] (s ∷ names) h in
    ap (λ ps. join_with_byte slash (all_but_last ps)) pieces ∙ joined-shorter (s ∷ names)

-- ---- the tests of one step

lacks_later : (c : ℕ) (s : Text) → lacks slash (c ∷ s) ≡ true → lacks slash s ≡ true
lacks_later c s h = grind arith

-- a name with a segment after it
dot_middle : (s y : Text) → lacks slash s ≡ true → is_name s ≡ true → begins_with (codes "/./") (slash ∷ s ++ slash ∷ y) ≡ false
dot_middle [] y h k = grind arith
dot_middle (c ∷ []) y h k = grind arith
dot_middle (c ∷ d ∷ s) y h k = grind arith

dot_end_middle : (s y : Text) → bytes_eq (slash ∷ s ++ slash ∷ y) (codes "/.") ≡ false
dot_end_middle s y = grind (arith, common_steps)

-- the last name
dot_last : (s : Text) → lacks slash s ≡ true → begins_with (codes "/./") (slash ∷ s) ≡ false
dot_last s h = grind arith

dot_end_last : (s : Text) → is_name s ≡ true → bytes_eq (slash ∷ s) (codes "/.") ≡ false
dot_end_last s k = grind arith

-- ---- the first segment, cut off

no_slash : (c : ℕ) (s : Text) → lacks slash (c ∷ s) ≡ true → char_set_contains (slash ∷ []) c ≡ false
no_slash c s h = grind arith

before-segment : (s y : Text) → lacks slash s ≡ true → before (slash ∷ []) (s ++ slash ∷ y) ≡ s
before-segment [] y h = before-yes (slash ∷ []) slash y refl
before-segment (c ∷ s) y h = before-no (slash ∷ []) c (s ++ slash ∷ y) (no_slash c s h) ∙ ap (λ x. c ∷ x) (before-segment s y (lacks_later c s h))

before-all : (s : Text) → lacks slash s ≡ true → before (slash ∷ []) s ≡ s
before-all [] h = refl
before-all (c ∷ s) h = before-no (slash ∷ []) c s (no_slash c s h) ∙ ap (λ x. c ∷ x) (before-all s (lacks_later c s h))

-- ---- one step

-- a name moves to the output
name_middle : (s y output : Text) → lacks slash s ≡ true → is_name s ≡ true → rewritten_once (record { input = slash ∷ s ++ slash ∷ y; output = output }) ≡ record { input = slash ∷ y; output = output ++ slash ∷ s }
name_middle s y output h k = grind (arith, common_steps, dot_middle, dot_end_middle, before-segment)

name_last : (s output : Text) → lacks slash s ≡ true → is_name s ≡ true → rewritten_once (record { input = slash ∷ s; output = output }) ≡ record { input = []; output = output ++ slash ∷ s }
name_last s output h k = grind (arith, common_steps, dot_last, dot_end_last, before-all)

-- ---- what one segment does to the names that stay so far

stay_dot : (front : List Text) → staying_before (front ++ codes "." ∷ []) 0 ≡ staying_before front 0
stay_dot front = staying_before-append front (codes "." ∷ []) 0 ∙ append-nil (staying_before front 0)

stay_parent : (front : List Text) → staying_before (front ++ codes ".." ∷ []) 0 ≡ all_but_last (staying_before front 0)
stay_parent front = staying_before-append front (codes ".." ∷ []) 0 ∙ append-nil (staying_before front 1) ∙ (takes_last front 0).names

stay_name : (front : List Text) (s : Text) → is_name s ≡ true → staying_before (front ++ s ∷ []) 0 ≡ staying_before front 0 ++ s ∷ []
stay_name front s h = grind (arith, staying_before-append)

-- the output, with the names that stay so far
abbrev output_of : List Text → Text
output_of front = slashed (staying_before front 0)

shorter_output : (front : List Text) → list_all (lacks slash) front ≡ true → without_last_segment (output_of front) ≡ output_of (front ++ codes ".." ∷ [])
shorter_output front h = without_last-slashed (staying_before front 0) (in-staying (lacks slash) front 0 h) ∙ ap slashed (sym (stay_parent front))

longer_output : (front : List Text) (s : Text) → is_name s ≡ true → output_of front ++ slash ∷ s ≡ output_of (front ++ s ∷ [])
longer_output front s h = slashed-snoc (staying_before front 0) s ∙ ap slashed (sym (stay_name front s h))

-- a segment is `.`, `..` or a name
by_kind : (P : Text → Type 0) → P (codes ".") → P (codes "..") → ((s : Text) → is_name s ≡ true → P s) → (s : Text) → P s
by_kind P dot parent name s = grind (arith, bytes_eq-Decides)

-- a segment with another after it
middle_step : (front : List Text) (t : Text) (rest : List Text) → list_all (lacks slash) front ≡ true → (s : Text) → lacks slash s ≡ true
    → rewritten_once (record { input = slashed (s ∷ t ∷ rest); output = output_of front }) ≡ record { input = slashed (t ∷ rest); output = output_of (front ++ s ∷ []) }
middle_step front t rest h =
    by_kind (λ s. lacks slash s ≡ true → rewritten_once (record { input = slashed (s ∷ t ∷ rest); output = output_of front }) ≡ record { input = slashed (t ∷ rest); output = output_of (front ++ s ∷ []) })
    (λ k i. record { input = slashed (t ∷ rest); output = slashed (sym (stay_dot front) i) })
    (λ k i. record { input = slashed (t ∷ rest); output = shorter_output front h i })
    (λ s name k. name_middle s (t ++ slashed rest) (output_of front) k name ∙ (λ i. record { input = slashed (t ∷ rest); output = longer_output front s name i }))

-- Some steps, no more than the input has characters, use the input up and leave the output.
pub record UsesUp (input output result : Text) : Type 0 where
  pub steps : ℕ
  pub within : steps ≤ length input
  pub leaves : rewritten steps (record { input = input; output = output }) ≡ record { input = []; output = result }

abbrev result_of : List Text → Bool → Text
result_of segments ends = slashed (staying_before segments 0 ++ closing ends)

last_steps : (front : List Text) → list_all (lacks slash) front ≡ true → (s : Text) → lacks slash s ≡ true → UsesUp (slashed (s ∷ [])) (output_of front) (result_of (front ++ s ∷ []) (ends_in_dots (s ∷ [])))
last_steps front h =
    by_kind (λ s. lacks slash s ≡ true → UsesUp (slashed (s ∷ [])) (output_of front) (result_of (front ++ s ∷ []) (ends_in_dots (s ∷ []))))
    (λ k. record {
      steps = 2;
      within = omega arith;
      leaves = name_last [] (output_of front) refl refl
          ∙ (λ i. record { input = []; output = slashed-snoc (staying_before front 0) [] i })
          ∙ (λ i. record { input = []; output = slashed (sym (stay_dot front) i ++ [] ∷ []) });
    })
    (λ k. record {
      steps = 2;
      within = omega arith;
      leaves = name_last [] (without_last_segment (output_of front)) refl refl
          ∙ (λ i. record { input = []; output = shorter_output front h i ++ slash ∷ [] })
          ∙ (λ i. record { input = []; output = slashed-snoc (staying_before (front ++ codes ".." ∷ []) 0) [] i });
    })
    (λ s name k. record {
      steps = 1;
      within = omega arith;
      leaves = (λ i. rewritten_once (record { input = slash ∷ append-nil s i; output = output_of front })) ∙ name_last s (output_of front) k name
          ∙ (λ i. record { input = []; output = longer_output front s name i })
          ∙ (λ i. record { input = []; output = slashed (sym (append-nil (staying_before (front ++ s ∷ []) 0)) i) })
          ∙ (λ i. record { input = []; output = result_of (front ++ s ∷ []) (not (sym name i)) });
    })

-- the names so far are those that stay in what has been read
uses_up : (front : List Text) (s : Text) (rest : List Text) → list_all (lacks slash) front ≡ true → list_all (lacks slash) (s ∷ rest) ≡ true → UsesUp (slashed (s ∷ rest)) (output_of front) (result_of (front ++ s ∷ rest) (ends_in_dots (s ∷ rest)))
uses_up front s [] h k = last_steps front h s (first_of_both (lacks slash s) true k)
uses_up front s (t ∷ rest) h k =
    let here = first_of_both (lacks slash s) (list_all (lacks slash) (t ∷ rest)) k in
    let later = uses_up (front ++ s ∷ []) t rest (list_all-snoc (lacks slash) front s h here) (second_of_both (lacks slash s) (list_all (lacks slash) (t ∷ rest)) k) in
    let size : length (slashed (s ∷ t ∷ rest)) ≡ suc (length s + length (slashed (t ∷ rest))) = ap suc (length-append s (slashed (t ∷ rest))) in
    let within = later.within in
    record {
      steps = suc later.steps;
      within = omega (arith, size, within);
      leaves = ap (rewritten later.steps) (middle_step front t rest h s here) ∙ later.leaves
          ∙ (λ i. record { input = []; output = result_of (append_assoc front (s ∷ []) (t ∷ rest) i) (ends_in_dots (t ∷ rest)) });
    }

-- ---- the whole path

spelled_items : (list : List Text) → is_empty list ≡ false → slashed list ≡ spell_path (record { absolute = true; segments = without_lone_empty list })
unfolding spell_path
spelled_items [] h = absurd (true≢false h)
spelled_items (s ∷ list) h = grind (arith, slashed-joined)

pub path_uses_up : (segments : List Text) → list_all (lacks slash) segments ≡ true → let p : PathValue = record { absolute = true; segments = segments } in UsesUp (spell_path p) [] (spell_path (normal p))
unfolding spell_path normal_segments Rattle.iref_grammar.specs.NormalList.staying_names
path_uses_up [] h = record { steps = 1; within = omega arith; leaves = refl }
path_uses_up (s ∷ rest) h =
    let p : PathValue = record { absolute = true; segments = s ∷ rest } in
    let up = uses_up [] s rest refl h in
    let spelled : slashed (items p) ≡ spell_path (normal p) =
    spelled_items (items p) (some_name s rest) ∙ (λ i. spell_path (record { absolute = true; segments = sym (normal_segments-is p) i })) in
    let text : spell_path p ≡ slashed (s ∷ rest) = slashed-joined s rest in
    record {
      steps = up.steps;
      within = subst (λ x. up.steps ≤ length x) (sym text) up.within;
      leaves = (λ i. rewritten up.steps (record { input = text i; output = [] })) ∙ up.leaves ∙ (λ i. record { input = []; output = spelled i });
    }

used_up_stays : (n : ℕ) (output : Text) → rewritten n (record { input = []; output = output }) ≡ record { input = []; output = output }
used_up_stays zero output = refl
used_up_stays (suc n) output = used_up_stays n output

more_steps : (n k : ℕ) (b : Buffers) (output : Text) → n ≤ k → rewritten n b ≡ record { input = []; output = output } → rewritten k b ≡ record { input = []; output = output }
more_steps zero k b output h e = ap (rewritten k) e ∙ used_up_stays k output
more_steps (suc n) zero b output h e = absurd (omega (arith, h))
more_steps (suc n) (suc k) b output h e = more_steps n k (rewritten_once b) output (omega (arith, h)) e

pub not_lone : (list : List Text) → is_one_empty (without_lone_empty list) ≡ false
not_lone [] = refl
not_lone (s ∷ list) = grind arith

-- under an authority an absolute normal path needs no guard
pub normalized-under_authority : (context : PathContext) (p : PathValue) → context.has_authority ≡ true → p.absolute ≡ true
    → normalized context p ≡ normal p
unfolding guarded
normalized-under_authority context p a b = grind (arith, normal_segments-is)

-- and what is computed by the rewriting
pub dot_segments_removed-is : (scheme : Bool) (segments : List Text) → list_all (lacks slash) segments ≡ true
    → let p : PathValue = record { absolute = true; segments = segments } in dot_segments_removed (spell_path p) ≡ spell_path (normalized (record { has_scheme = scheme; has_authority = true }) p)
dot_segments_removed-is scheme segments h =
    let p : PathValue = record { absolute = true; segments = segments } in
    let up = path_uses_up segments h in
    (λ i. (more_steps up.steps (length (spell_path p)) (record { input = spell_path p; output = [] }) (spell_path (normal p)) up.within up.leaves i).output)
    ∙ (λ i. spell_path (sym (normalized-under_authority (record { has_scheme = scheme; has_authority = true }) p refl refl) i))

-- the rewriting leaves one output
pub removes-one : (input output one other : Text) → RemovesDotSegments input output one → RemovesDotSegments input output other → one ≡ other
removes-one input output one other a b =
    let start : Buffers = record { input = input; output = output } in
    let first = more_steps a.0 (a.0 + b.0) start one (omega arith) a.1 in
    let second = more_steps b.0 (a.0 + b.0) start other (omega arith) b.1 in
    λ i. ((sym first ∙ second) i).output

-- `normalize` on an absolute path under an authority leaves what the rewriting leaves
pub path_removes_dot_segments : (context : PathContext) (p : PathValue) → context.has_authority ≡ true → p.absolute ≡ true → list_all (lacks slash) p.segments ≡ true
    → RemovesDotSegments (spell_path p) [] (spell_path (normalized context p))
path_removes_dot_segments context p a b h =
    let up = path_uses_up p.segments h in
    subst (λ q. RemovesDotSegments (spell_path p) [] (spell_path q)) (sym (normalized-under_authority context p a b))
    (subst (λ flag. let q = record p { absolute = flag } in RemovesDotSegments (spell_path q) [] (spell_path (normal q))) (sym b)
    (up.steps, up.leaves))
