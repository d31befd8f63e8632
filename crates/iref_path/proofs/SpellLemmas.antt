-- The text of a normal path: what it is made of, and how long it is.
use Rattle.std.proofs.Common.{append_assoc, length-append, ◌≡◌, ℕ, zero, suc, ◌+◌, ◌-◌, ◌<◌, ◌≤◌, Bool, true, false, ◌||◌, List, [], ◌∷◌, ◌++◌, length, refl, sym, ◌∙◌, ap, arith, ◌==◌, replicate, codes, IsUtf8}
use Rattle.std.proofs.{lemmas.Grind.{flat_map-append}, lemmas.Bool.Decides.{nat_tests}, lemmas.List.{append-nil}}
use Rattle.std.proofs.{lemmas.Slice.Eq.{bytes_eq-Decides}, lemmas.Str.{IsUtf8-from_is_utf8}}
use Rattle.std.specs.{Char.{char_set_contains}, List.{join_with_byte, list_all, list_any}}
use Rattle.iref_grammar.specs.{Characters.{CharTests, AreAboveAscii}, Rules.{Text}, Grammar.{slash}}
use Rattle.iref_grammar.specs.{Texts.{all_but_last, lacks}, Tests.{is_path, is_segment}}
use Rattle.iref_grammar.specs.{declared.context.PathContext.{PathContext}, Contexts.{alone, is_path_in}}
use Rattle.iref_grammar.specs.PathValue.{PathValue, is_one_empty, read_path, segments_of, spell_path}
use Rattle.iref_grammar.proofs.{TextLemmas.{join-pieces_at}, PathLemmas.{read_path-reads, read-spelled}}
use Rattle.iref_grammar.proofs.PathTestLemmas.{is_path-segments}
use Rattle.iref_grammar.specs.{Guard.{guarded}, NormalList.{normal_segments}, NormalReading.{open_before, staying_before}}
use Rattle.iref_grammar.specs.PathSteps.{normalized}
use Rattle.iref_path.specs.{PathParts.{is_path_after}, NormalItems.{first_or, flagged_path}}
use Rattle.iref_path.specs.Spelling.{each_closed, guard, guard_in, normal_in}
use Rattle.iref_grammar.proofs.{GuardLemmas.{guarded-fits}, PieceLemmas.{some_piece}}
use Rattle.iref_grammar.proofs.{ItemLemmas.{name_no_parent, normal_segments-is}, NormalGrammarLemmas.{takes_dots}}
use Rattle.iref_grammar.proofs.StepSegmentLemmas.{TakesDots, guarded-in, normal-in}
use Rattle.iref_grammar.proofs.{PathGrammarLemmas.{segments_of_path}, RewritingLemmas.{not_lone}}

-- ---- segments with a `/` after each

pub each_closed-append : (front back : List Text) → each_closed (front ++ back) ≡ each_closed front ++ each_closed back
each_closed-append front back = flat_map-append (λ s. s ++ slash ∷ []) front back

-- the last one without it is the spelling of the list
pub joined_before : (front : List Text) (s : Text) → each_closed front ++ s ≡ join_with_byte slash (front ++ s ∷ [])
joined_before [] s = refl
joined_before (t ∷ []) s = grind (arith, append_assoc)
joined_before (t ∷ u ∷ front) s = grind (arith, append_assoc, joined_before (u ∷ front) s)

-- a list from its end
pub closed_last : (list front : List Text) (s : Text) → list ≡ front ++ s ∷ [] → each_closed list ≡ each_closed front ++ (s ++ slash ∷ [])
closed_last list front s e = grind (arith, e, append-nil, each_closed-append front (s ∷ []))

pub joined_last : (list front : List Text) (s : Text) → list ≡ front ++ s ∷ [] → join_with_byte slash list ≡ each_closed front ++ s
joined_last list front s e = ap (join_with_byte slash) e ∙ sym (joined_before front s)

-- a text with a `/` after it, and then another one
pub closed_then : (front back : Text) → front ++ slash ∷ back ≡ (front ++ slash ∷ []) ++ back
closed_then front back = sym (append_assoc front (slash ∷ []) back)

parents_last : (n : ℕ) → each_closed (replicate (suc n) (codes "..")) ≡ each_closed (replicate n (codes "..")) ++ codes "../"
parents_last zero = refl
parents_last (suc n) = ap (λ text. codes "../" ++ text) (parents_last n)

-- one of those that are left is the last
pub parents_left : (n i : ℕ) → i < n → each_closed (replicate (n - i) (codes "..")) ≡ each_closed (replicate (n - (i + 1)) (codes "..")) ++ codes "../"
parents_left n i h =
    let e : n - i ≡ suc (n - (i + 1)) = omega arith in
    ap (λ k. each_closed (replicate k (codes ".."))) e ∙ parents_last (n - (i + 1))

pub length-joined : (s : Text) (rest : List Text) → length (each_closed (s ∷ rest)) ≡ length (join_with_byte slash (s ∷ rest)) + 1
length-joined s [] = grind (arith, append_assoc, length-append, nat_tests)
length-joined s (t ∷ rest) = grind (arith, append_assoc, length-append, nat_tests, length-joined t rest)

-- of any list
pub length-join : (list : List Text) → length (join_with_byte slash list) ≡ length (each_closed list) - 1
length-join [] = refl
length-join (s ∷ rest) = omega (arith, length-joined s rest)

-- ---- the normal list is hardly longer than the list

pub size-cons : (s : Text) (list : List Text) → length (each_closed (s ∷ list)) ≡ length s + 1 + length (each_closed list)
size-cons s list = grind (arith, append_assoc, length-append, nat_tests)

pub size-append : (front back : List Text) → length (each_closed (front ++ back)) ≡ length (each_closed front) + length (each_closed back)
size-append front back = grind (arith, append_assoc, length-append, nat_tests, each_closed-append)

pub size-parents : (n : ℕ) → length (each_closed (replicate n (codes ".."))) ≡ n + n + n
size-parents zero = refl
size-parents (suc n) = grind (arith, size-cons, size-parents n)

pub kept_size : (list : List Text) → open_before list 0 + open_before list 0 + open_before list 0 + length (each_closed (staying_before list 0)) ≤ length (each_closed list)
kept_size [] = omega arith
kept_size (s ∷ rest) = grind (arith, nat_tests, name_no_parent, bytes_eq-Decides, size-cons, kept_size rest)

pub normal_size : (p : PathValue) → length (each_closed (normal_segments p)) ≤ length (each_closed p.segments) + 1
normal_size p = grind (arith, size-append, size-parents, kept_size p.segments, normal_segments-is)

-- of a text, and of the text of a path
segments_size : (text : Text) → length (each_closed (segments_of text)) ≤ length text + 1
segments_size [] = omega arith
segments_size (c ∷ cs) = grind (arith, some_piece slash (c ∷ cs), join-pieces_at slash (c ∷ cs), length-joined)

-- the segments of a path that is read from a text
pub read_size : (text : Text) (p : PathValue) → read_path text ≡ p → length (each_closed p.segments) ≤ length text + 1
unfolding read_path
read_size [] p e = grind arith
read_size (c ∷ cs) p e = grind (arith, segments_size cs, segments_size (c ∷ cs))

pub normal_size-text : (absolute : Bool) (text : Text) → length (each_closed (normal_segments (flagged_path absolute text))) ≤ length text + 2
normal_size-text absolute text = omega (arith, normal_size (flagged_path absolute text), read_size text _ refl)

-- ---- the spelling

-- the root and the guard of a list, in its text
pub list-spelled : (context : PathContext) (absolute : Bool) (list : List Text) → is_one_empty list ≡ false
    → spell_path (guarded context (record { absolute = absolute; segments = list })) ≡ guard_in context absolute (length (each_closed list)) (first_or [] list) ++ join_with_byte slash list
unfolding spell_path guarded
list-spelled context absolute [] h = grind (arith, append-nil)
list-spelled context absolute (s ∷ rest) h = grind (arith, nat_tests, size-cons)

-- a relative list that stands alone, which may be one empty segment
pub relative-spelled : (list : List Text) (size : ℕ) (first : Text) → size ≡ length (each_closed list) → first ≡ first_or [] list
    → guard_in alone false size first ++ join_with_byte slash list ≡ spell_path (guarded alone (record { absolute = false; segments = list }))
unfolding spell_path guarded
relative-spelled ([] ∷ []) size first h k = grind arith
relative-spelled list size first h k = grind (arith, list-spelled)

-- the text of the normalized path
pub normalized-spelled : (context : PathContext) (p : PathValue) (list : List Text) (size : ℕ) (first : Text) → list ≡ normal_segments p → size ≡ length (each_closed list) → first ≡ first_or [] list
    → guard_in context p.absolute size first ++ join_with_byte slash list ≡ spell_path (normalized context p)
normalized-spelled context p list size first e h k = grind (arith, list-spelled, normal_segments-is, not_lone)

-- ---- what is read in it

pub lacks_dots : TakesDots (lacks slash)
lacks_dots = grind arith

-- the text of a guarded path is read as that path
pub guarded-read : (context : PathContext) (p : PathValue) → list_all (lacks slash) p.segments ≡ true → read_path (spell_path (guarded context p)) ≡ guarded context p
guarded-read context p h =
    let fit = guarded-fits context p in
    read-spelled _ (guarded context p).segments (guarded-in (lacks slash) lacks_dots context p h) (grind arith)

-- it is a path, may stand in its context, and nothing else is read there
pub guarded-in_context : (set : CharTests) → AreAboveAscii set → (context : PathContext) (p : PathValue) → list_all (lacks slash) p.segments ≡ true → list_all (is_segment set) p.segments ≡ true
    → let new = spell_path (guarded context p) in (is_path_in set context new ≡ true) × (is_path_after set context new ≡ true)
guarded-in_context set above context p lack h =
    grind (arith, guarded-read context p, guarded-fits context p, guarded-in (is_segment set) (takes_dots set) context p, is_path-segments set above)

-- the same of a normal path that is read from a text
module _ (context : PathContext) (absolute : Bool) (text : Text) where
  pub normalized-read : let p = normal_in context absolute text in read_path (spell_path p) ≡ p
  normalized-read = grind (arith, guarded-read, normal-in (lacks slash) lacks_dots (flagged_path absolute text), read_path-reads text)

  pub normalized-in_context : (set : CharTests) → AreAboveAscii set → is_path set text ≡ true
      → let new = spell_path (normal_in context absolute text) in (is_path_in set context new ≡ true) × (is_path_after set context new ≡ true)
  normalized-in_context set above h =
      grind (
        arith,
        guarded-in_context set above context,
        normal-in (lacks slash) lacks_dots,
        read_path-reads text,
        normal-in (is_segment set) (takes_dots set),
        segments_of_path set above,
      )

pub path-utf8 : (set : CharTests) (text : Text) → is_path set text ≡ true → IsUtf8 text
unfolding is_path
path-utf8 set text h = grind (arith, IsUtf8-from_is_utf8)

pub any-contained : (text : Text) (mark : ℕ) → list_any (λ c. c == mark) text ≡ char_set_contains text mark
any-contained [] mark = refl
any-contained (c ∷ text) mark = ap (λ b. c == mark || b) (any-contained text mark)

-- ---- the sizes of lists of segments

-- a segment with its `/` has a byte at least
pub list_size : (list : List Text) → length list ≤ length (each_closed list)
list_size [] = omega arith
list_size (s ∷ rest) = grind (arith, size-cons, list_size rest)

pub last_size : (list : List Text) → length (each_closed (all_but_last list)) ≤ length (each_closed list)
last_size [] = omega arith
last_size (s ∷ rest) = grind (arith, size-cons, last_size rest)

-- what comes before the items, and these
pub length-guard : (guard : Text) (list : List Text) → length (guard ++ join_with_byte slash list) ≡ length guard + (length (each_closed list) - 1)
length-guard guard list = grind (arith, append_assoc, length-append, nat_tests, length-join)

pub ruleset relative = (length-join, relative-spelled)

pub ruleset joined = (length-join)

pub ruleset stacked_sizes = (length-guard)

pub ruleset guarded_sizes = (length-guard, normalized-spelled)

pub ruleset lasts = (closed_last, joined_last)

pub ruleset parent_sizes = (size-parents)
