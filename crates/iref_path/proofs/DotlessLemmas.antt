-- A list in which no segment begins with a dot is its own normal list.
use Rattle.std.proofs.Common.{◌≡◌, ℕ, ◌+◌, Bool, true, false, ◌||◌, List, [], ◌∷◌, ◌++◌, length, refl, sym, ap, arith, Option}
use Rattle.std.proofs.{lemmas.List.{append-nil}, lemmas.Bool.Decides.{nat_tests}, lemmas.List.Folds.{list_any-append}}
use Rattle.std.proofs.{lemmas.Slice.Eq.{bytes_eq-Decides}, lemmas.Str.Pattern.{strip_prefix_char}}
use Rattle.std.specs.{Option.{unwrap_or}, Borrow.{Bor}, List.{list_any}}
use Rattle.iref_grammar.specs.{declared.context.PathContext.{PathContext}, Rules.{Text}, Grammar.{slash}}
use Rattle.iref_grammar.specs.Texts.{all_but_last, pieces_at}
use Rattle.iref_grammar.specs.PathValue.{PathValue, is_one_empty, read_path, segments_of, spell_path}
use Rattle.iref_grammar.proofs.TextLemmas.{join-pieces_at}
use Rattle.iref_grammar.specs.NormalList.{is_name, ends_in_dots, normal_segments, staying_names, without_lone_empty}
use Rattle.iref_grammar.specs.{NormalReading.{open_before, staying_before}, PathSteps.{normalized}}
use Rattle.iref_grammar.specs.Relative.{directory_names, steps_between}
use Rattle.iref_grammar.proofs.{ItemLemmas.{name_no_parent, normal_segments-is}, PieceLemmas.{pieces-append, some_piece}}
use Rattle.iref_grammar.proofs.StayingLemmas.{staying_names-is}
use Rattle.iref_parse.specs.Dots.{begins_with_dot, has_dotted_segment, is_some_dotted}
use Rattle.iref_path.specs.{Bodies.{after_front}, Pieces.{pieces_if_some}, NormalItems.{first_or}}
use Rattle.iref_path.specs.{StepsBetween.{text_steps}, Spelling.{each_closed, guard_in}}
use Rattle.iref_path.proofs.SlashLemmas.{read-absolute}
use Rattle.iref_path.proofs.SpellLemmas.{length-joined, normalized-spelled, length-join, normal_size}

-- a segment that begins with no dot is a name
pub dotless_name : (s : Text) → begins_with_dot s ≡ false → is_name s ≡ true
dotless_name s h = grind (arith, bytes_eq-Decides)

pub none_open : (list : List Text) → is_some_dotted list ≡ false → open_before list 0 ≡ 0
none_open [] h = refl
none_open (s ∷ rest) h = grind (arith, dotless_name, name_no_parent, none_open rest)

pub all_stay : (list : List Text) → is_some_dotted list ≡ false → staying_before list 0 ≡ list
all_stay [] h = refl
all_stay (s ∷ rest) h = grind (arith, dotless_name, none_open, all_stay rest)

ends_in_a_name : (list : List Text) → is_some_dotted list ≡ false → ends_in_dots list ≡ false
ends_in_a_name [] h = refl
ends_in_a_name (s ∷ rest) h = grind (arith, dotless_name, ends_in_a_name rest)

pub normal_segments-dotless : (p : PathValue) → is_some_dotted p.segments ≡ false → normal_segments p ≡ without_lone_empty p.segments
normal_segments-dotless p h =
    rw (normal_segments-is, none_open p.segments h, all_stay p.segments h, ends_in_a_name p.segments h) (grind (arith, append-nil))

-- ---- the text

-- a text whose pieces are one empty segment is empty
pub whole_text : (c : ℕ) (cs : Text) → is_one_empty (pieces_at slash (c ∷ cs)) ≡ false
whole_text c cs = grind (arith, join-pieces_at slash (c ∷ cs))

-- after an authority no first segment needs a guard
pub unguarded : (context : PathContext) (absolute : Bool) (n : ℕ) (s t : Text) → context.has_authority ≡ true → guard_in context absolute n s ≡ guard_in context absolute n t
unguarded context absolute n s t h = grind arith

-- the text of the segments, after what stands first, spells the normalized path
pub dotless-spelled : (context : PathContext) (absolute : Bool) (text first : Text) (rest : List Text) → pieces_at slash text ≡ first ∷ rest → has_dotted_segment text ≡ false
    → guard_in context absolute (length text) first ++ text ≡ spell_path (normalized context (record { absolute = absolute; segments = pieces_at slash text }))
dotless-spelled context absolute [] first rest e h =
    let p : PathValue = record { absolute = absolute; segments = [] ∷ [] } in
    normalized-spelled context p [] 0 [] (sym (normal_segments-dotless p h)) refl refl
dotless-spelled context absolute (c ∷ cs) first rest e h =
    let list = pieces_at slash (c ∷ cs) in
    let p : PathValue = record { absolute = absolute; segments = list } in
    let same : list ≡ normal_segments p = grind (arith, normal_segments-dotless, whole_text) in
    let spelled = normalized-spelled context p list (length (each_closed list)) first same refl (ap (first_or []) (sym e)) in
    grind (arith, nat_tests, length-joined, join-pieces_at slash (c ∷ cs))

-- ---- two texts

-- their segments are those of the text
pub both_pieces : (front : Option (Bor Text)) (back : Text) → pieces_at slash (after_front front back) ≡ pieces_if_some front ++ pieces_at slash back
both_pieces front back = grind (arith, pieces-append)

-- a segment of either begins with a dot
pub both_dotted : (front back : Text) → (has_dotted_segment front || has_dotted_segment back) ≡ has_dotted_segment (front ++ slash ∷ back)
both_dotted front back = grind (arith, list_any-append, pieces-append)

-- the text is not longer than its segments are
pub both_size : (front : Option (Bor Text)) (back : Text) → length (each_closed (pieces_if_some front ++ pieces_at slash back)) ≡ length (after_front front back) + 1
both_size front back = let text = after_front front back in grind (arith, both_pieces front back, some_piece slash text, length-joined, join-pieces_at slash text)

-- they have the first segment of the front text, if there is one
pub first_of_both_texts : (front : Option (Bor Text)) (back : Bor Text) → first_or [] (pieces_at slash (unwrap_or front back).now) ≡ first_or [] (pieces_at slash (after_front front back.now))
first_of_both_texts front back = grind (arith, some_piece slash (unwrap_or front back).now, pieces-append)

-- ---- the steps from a directory

-- what holds of no item holds of none before the last
pub none_in_front : (test : Text → Bool) (list : List Text) → list_any test list ≡ false → list_any test (all_but_last list) ≡ false
none_in_front test [] h = refl
none_in_front test (s ∷ rest) h = grind (arith, none_in_front test rest)

-- the names of the directory are its segments
dotless_names : (text : Text) → has_dotted_segment text ≡ false → staying_names (all_but_last (segments_of text)) ≡ all_but_last (pieces_at slash text)
dotless_names [] h = staying_names-is []
dotless_names (c ∷ cs) h = grind (arith, staying_names-is, all_stay, none_in_front begins_with_dot)

-- the steps lead to the segments
dotless_target : (directory : List Text) (text : Text) → has_dotted_segment text ≡ false
    → steps_between directory (pieces_at slash text) ≡ steps_between directory (normal_segments (record { absolute = true; segments = segments_of text }))
dotless_target directory [] h = grind (arith, normal_segments-dotless)
dotless_target directory (c ∷ cs) h = grind (arith, normal_segments-dotless, whole_text)

pub dotless-steps : (base path below rest : Text) → base ≡ slash ∷ below → path ≡ slash ∷ rest → has_dotted_segment below ≡ false → has_dotted_segment rest ≡ false
    → text_steps below rest ≡ steps_between (directory_names (read_path base)) (normal_segments (read_path path))
dotless-steps base path below rest e f h k =
    cc (dotless_target (all_but_last (pieces_at slash below)) rest k, dotless_names below h, read-absolute base below _ e refl, read-absolute path rest _ f refl)

pub ruleset sizes = (both_size, length-join, normal_size)

pub ruleset behind_roots = (strip_prefix_char, dotless-steps)
