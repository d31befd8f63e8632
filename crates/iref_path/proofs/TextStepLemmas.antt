-- The steps from one text of segments to another, whose names are compared as they stand.
use Rattle.std.proofs.Common.{◌≡◌, ◌≢◌, ℕ, zero, suc, ◌+◌, Bool, true, false, not, cond, ◌&&◌, ◌||◌, List, [], ◌∷◌, ◌++◌, refl, sym, ◌∙◌, ap, arith, append_assoc, codes, nat_le, replicate}
use Rattle.std.proofs.{lemmas.Grind.{common_steps}, lemmas.Bool.Decides.{nat_tests}, lemmas.List.{append-nil}}
use Rattle.iref_grammar.specs.{Rules.{Text}, Grammar.{slash}, Texts.{all_but_last, is_empty, pieces_at}}
use Rattle.iref_grammar.specs.{PathValue.{PathValue, is_one_empty, segments_of}, Contexts.{alone}}
use Rattle.iref_grammar.proofs.TextLemmas.{join-pieces_at}
use Rattle.iref_grammar.specs.{NormalList.{count_parents, kept_segments, normal_segments}, Guard.{guarded}}
use Rattle.iref_grammar.specs.{Relative.{last_or_empty}, Relativized.{is_climb, shortened, steps_by_text}}
use Rattle.iref_grammar.specs.RelativizedTests.{is_reachable_from}
use Rattle.iref_grammar.proofs.{DirectoryLemmas.{all_but_last-snoc}, ItemLemmas.{name_no_parent}, JoinedLemmas.{climbs}}
use Rattle.iref_grammar.proofs.{LeadingLemmas.{divided_last}, PieceLemmas.{some_piece}, AddedLemmas.{guarded-same}}
use Rattle.iref_grammar.proofs.WalkLemmas.{climb-is}
use Rattle.iref_parse.specs.Dots.{begins_with_dot, has_dotted_segment, is_some_dotted}
use Rattle.iref_path.specs.{ShortestPaths.{are_some_parents, directory_of}, StepsBetween.{text_steps_by_text}}
use Rattle.iref_path.proofs.ClimbLemmas.{all_parents, climb-last, kept-read}
use Rattle.iref_path.proofs.DotlessLemmas.{all_stay, dotless_name, none_in_front, none_open, normal_segments-dotless, whole_text}

-- ---- shortened

-- a list of `..` and of segments of which none begins with a dot
no_parents : (n : ℕ) (f : Text) (front : List Text) → begins_with_dot f ≡ false → are_some_parents (replicate n (codes "..") ++ f ∷ front) ≡ false
no_parents zero f front h = grind (arith, dotless_name f, name_no_parent f)
no_parents (suc n) f front h = grind (arith, all_parents n (f ∷ front), dotless_name f, name_no_parent f)

no_climb : (up : ℕ) (text : Text) → is_empty text ≡ false → has_dotted_segment text ≡ false → (s : Text) (rest : List Text) → pieces_at slash text ≡ s ∷ rest → is_climb (replicate up (codes "..") ++ s ∷ rest) ≡ false
no_climb up text some dotless s [] e =
    let whole = join-pieces_at slash text in
    grind (arith, climb-last (replicate up (codes "..") ++ s ∷ []) (replicate up (codes "..")) s refl)
no_climb up text some dotless s (t ∷ rest) e =
    let front = s ∷ all_but_last (t ∷ rest) in
    let divided : replicate up (codes "..") ++ s ∷ t ∷ rest ≡ (replicate up (codes "..") ++ front) ++ last_or_empty (t ∷ rest) ∷ [] =
    ap (λ l. replicate up (codes "..") ++ s ∷ l) (sym (divided_last t rest)) ∙ sym (append_assoc (replicate up (codes "..")) front (last_or_empty (t ∷ rest) ∷ [])) in
    let first : begins_with_dot s ≡ false = grind arith in
    grind (arith, climb-last (replicate up (codes "..") ++ s ∷ t ∷ rest) (replicate up (codes "..") ++ front) (last_or_empty (t ∷ rest)) divided, no_parents up s (all_but_last (t ∷ rest)) first)

no_lone : (up : ℕ) (c : ℕ) (cs : Text) → is_one_empty (replicate up (codes "..") ++ pieces_at slash (c ∷ cs)) ≡ false
no_lone zero c cs = whole_text c cs
no_lone (suc up) c cs = refl

pub shortened-some : (up : ℕ) (text : Text) → is_empty text ≡ false → has_dotted_segment text ≡ false → shortened (replicate up (codes "..") ++ pieces_at slash text) ≡ replicate up (codes "..") ++ pieces_at slash text
shortened-some up [] some h = absurd (let f : true ≡ false = some in cc)
shortened-some up (c ∷ cs) some h =
    let piece = some_piece slash (c ∷ cs) in
    let climb = no_climb up (c ∷ cs) some h piece.0 piece.1 piece.2 in
    grind (arith, no_lone up c cs)

pub shortened-climb : (list : List Text) → is_climb list ≡ true → shortened list ≡ all_but_last list
shortened-climb list h = ap (λ b. cond b (all_but_last list) (cond (is_one_empty list) (codes "." ∷ []) list)) h

-- without the empty segment nothing but `..` is left, which needs no guard
pub climb_unguarded : (list : List Text) → is_climb list ≡ true
    → guarded alone (record { absolute = false; segments = all_but_last list }) ≡ record { absolute = false; segments = all_but_last list }
climb_unguarded list h =
    let is = climb-is list h in
    (λ i. guarded alone (record { absolute = false; segments = is.2 i })) ∙ guarded-same alone (record { absolute = false; segments = climbs (suc is.0) }) refl
    ∙ (λ i. record { absolute = false; segments = sym is.2 i })

-- `..` for `../`
one_more : (n : ℕ) → replicate n (codes "..") ++ codes ".." ∷ [] ≡ codes ".." ∷ replicate n (codes "..")
one_more zero = refl
one_more (suc n) = ap (λ l. codes ".." ∷ l) (one_more n)

pub shortened-up : (n : ℕ) → shortened (replicate (n + 1) (codes "..") ++ pieces_at slash []) ≡ replicate n (codes "..") ++ pieces_at slash (codes "..")
shortened-up n =
    let list = replicate (n + 1) (codes "..") in
    let some : are_some_parents list ≡ true = grind (arith, all_parents (n + 1) [], append-nil list) in
    let climb = climb-last (list ++ [] ∷ []) list [] refl in
    grind (arith, all_but_last-snoc list [], one_more n)

-- ---- from a directory of which no segment begins with a dot

dotless_parents : (list : List Text) → is_some_dotted list ≡ false → count_parents list ≡ 0
dotless_parents [] h = refl
dotless_parents (s ∷ list) h = grind (arith, common_steps, dotless_name s, name_no_parent s, dotless_parents list)

-- what stays of it are its segments
dotless_kept : (absolute : Bool) (list : List Text) → is_some_dotted list ≡ false → kept_segments (record { absolute = absolute; segments = list }) ≡ list
dotless_kept absolute list h = rw (kept-read absolute list, none_open list h, all_stay list h) (grind arith)

dotless_directory : (absolute : Bool) (text : Text) → has_dotted_segment text ≡ false → kept_segments (record { absolute = absolute; segments = all_but_last (segments_of text) }) ≡ all_but_last (pieces_at slash text)
dotless_directory absolute [] h = dotless_kept absolute [] refl
dotless_directory absolute (c ∷ cs) h = dotless_kept absolute (all_but_last (pieces_at slash (c ∷ cs))) (none_in_front begins_with_dot (pieces_at slash (c ∷ cs)) h)

-- the steps lead to the segments
dotless_list : (absolute : Bool) (directory : List Text) (text : Text) → has_dotted_segment text ≡ false
    → steps_by_text directory (pieces_at slash text) ≡ steps_by_text directory (normal_segments (record { absolute = absolute; segments = segments_of text }))
dotless_list absolute directory [] h = grind (arith, normal_segments-dotless)
dotless_list absolute directory (c ∷ cs) h = grind (arith, normal_segments-dotless, whole_text)

-- the directory with which a relative path is merged
pub directory-is : (has_authority absolute : Bool) (segments : List Text) →
    directory_of has_authority (record { absolute = absolute; segments = segments }) ≡ record { absolute = absolute || has_authority && is_empty segments; segments = all_but_last segments }
directory-is has_authority absolute segments = grind (arith, common_steps, append-nil)

is_empty-segments : (text : Text) → is_empty (segments_of text) ≡ is_empty text
is_empty-segments [] = refl
is_empty-segments (c ∷ cs) = grind (arith, some_piece slash (c ∷ cs))

module _ (has_authority absolute rooted : Bool) (below rest : Text) (base path : PathValue) (b : base ≡ record { absolute = absolute; segments = segments_of below }) (p : path ≡ record { absolute = rooted; segments = segments_of rest }) where
  abbrev flag : Bool
  flag = absolute || has_authority && is_empty below

  abbrev directory : PathValue
  directory = record { absolute = flag; segments = all_but_last base.segments }

  flag-read : (base.absolute || has_authority && is_empty base.segments) ≡ flag
  flag-read = ap (λ (q : PathValue). q.absolute || has_authority && is_empty q.segments) b ∙ ap (λ e. absolute || has_authority && e) (is_empty-segments below)

  pub directory-read : directory_of has_authority base ≡ directory
  directory-read = directory-is has_authority base.absolute base.segments ∙ (λ i. record { absolute = flag-read i; segments = all_but_last base.segments })

  flag_of : path.absolute ≡ rooted
  flag_of = ap (λ (q : PathValue). q.absolute) p

  -- one flag is needed
  pub other_flag : flag ≢ rooted → is_reachable_from (directory_of has_authority base) path ≡ false
  other_flag differ = rw directory-read (by flag path.absolute (λ e. differ (e ∙ flag_of)))
    where
      by : (a r : Bool) → (a ≡ r → ⊥) → (cond a r (not r) && nat_le (count_parents (kept_segments directory)) (count_parents (normal_segments path))) ≡ false
      by true true h = absurd (h refl)
      by false false h = absurd (h refl)
      by true false h = refl
      by false true h = refl

  -- and with one, as many leading `..`
  pub same_flag : flag ≡ rooted → is_reachable_from (directory_of has_authority base) path ≡ nat_le (count_parents (kept_segments directory)) (count_parents (normal_segments path))
  same_flag same = rw directory-read (by flag path.absolute (same ∙ sym flag_of))
    where
      by : (a r : Bool) → a ≡ r → (cond a r (not r) && nat_le (count_parents (kept_segments directory)) (count_parents (normal_segments path))) ≡ nat_le (count_parents (kept_segments directory)) (count_parents (normal_segments path))
      by true true h = refl
      by false false h = refl
      by true false h = cc
      by false true h = cc

  module _ (h : has_dotted_segment below ≡ false) (k : has_dotted_segment rest ≡ false) where
    kept_is : kept_segments directory ≡ all_but_last (pieces_at slash below)
    kept_is = ap (λ (q : PathValue). kept_segments (record { absolute = flag; segments = all_but_last q.segments })) b ∙ dotless_directory flag below h

    pub dotless_reached : flag ≡ rooted → is_reachable_from (directory_of has_authority base) path ≡ true
    dotless_reached same =
        let none = ap count_parents kept_is ∙ dotless_parents (all_but_last (pieces_at slash below)) (none_in_front begins_with_dot (pieces_at slash below) h) in
        same_flag same ∙ grind (arith, nat_tests)

    pub dotless_steps : steps_by_text (kept_segments (directory_of has_authority base)) (normal_segments path) ≡ text_steps_by_text below rest
    dotless_steps =
        (λ i. steps_by_text (kept_segments (directory-read i)) (normal_segments (p i)))
        ∙ ap (λ d. steps_by_text d (normal_segments (record { absolute = rooted; segments = segments_of rest }))) kept_is
        ∙ sym (dotless_list rooted (all_but_last (pieces_at slash below)) rest k)

pub ruleset ends = (shortened-some, shortened-up)
