-- The normal list of segments, written forward.
use Rattle.std.proofs.Common.{add-one, ◌||◌, length-take, eqb, get_or, get_or-take, ◌<◌, ⊎_elim, ◌≡◌, ℕ, ◌+◌, ◌-◌, true, false, cond, List, [], ◌∷◌, ◌++◌, length, take, drop, refl, sym, ◌∙◌, ap, append_assoc, length-append, arith, ◌≢◌}
use Rattle.std.proofs.{lemmas.Bool.Decides.{nat_tests}, lemmas.Grind.{common_steps}}
use Rattle.std.proofs.lemmas.List.{append-nil, drop_all, get_or_past, take_all, take_at, drop_at}
use Rattle.std.proofs.{lemmas.Bool.{and_parts, cases_lt, eqb-true}, Math.Seq.{take-suc}, lemmas.Result.{on_ok_weaker}}
use Rattle.std.specs.List.{join_with_byte, list_all}
use Rattle.iref_grammar.proofs.TextLemmas.{join-pieces_at, lacks-pieces_at, pieces_at-front, pieces_at-join}
use Rattle.iref_grammar.specs.{declared.context.PathContext.{PathContext}, Rules.{Text}, Grammar.{slash}}
use Rattle.iref_grammar.specs.PathValue.{PathValue, read_path, segments_of, spell_path}
use Rattle.iref_grammar.specs.Texts.{all_but_last, is_empty, lacks, pieces_at}
use Rattle.iref_grammar.specs.{NormalList.{is_name, normal_segments}, NormalReading.{items, open_before, staying_before}}
use Rattle.iref_grammar.specs.PathSteps.{normalized}
use Rattle.iref_grammar.proofs.{DirectoryLemmas.{all_but_last-snoc}, ItemLemmas.{name_no_parent, normal_segments-is}}
use Rattle.iref_grammar.proofs.{PieceLemmas.{some_piece}, StayingLemmas.{TakesLast, staying_before-append, takes_last}}
use Rattle.iref_grammar.proofs.StepSegmentLemmas.{in-shortened}
use Rattle.iref_parse.specs.Dots.{is_slash_dot, is_some_dotted}
use Rattle.iref_parse.proofs.DotSegmentLemmas.{later_dotless}
use Rattle.iref_path.proofs.{DirectoryLemmas.{around_pieces}, DotlessLemmas.{dotless_name}}
use Rattle.iref_path.proofs.SlashLemmas.{pieces-cut_last, pieces-uncut, read-absolute, read-relative}
use Rattle.iref_path.proofs.RewritingLemmas.{join-lone, join-segments, one_last}
use Rattle.iref_path.proofs.SpellLemmas.{each_closed-append, joined_before, normalized-spelled}
use Rattle.iref_path.specs.{Forward.{forward, last_put, popped_text, segment_put}, MergedPaths.{path_after}}
use Rattle.iref_path.specs.{NormalItems.{first_or}, Slashes.{IsLastSlash, LacksSlashFrom}, Spelling.{each_closed}}

abbrev absolute_list : List Text → PathValue
absolute_list segments = record { absolute = true; segments = segments }

-- the text of a path after an authority
pub after_authority : (context : PathContext) (segments : List Text) → context.has_authority ≡ true → spell_path (normalized context (absolute_list segments)) ≡ slash ∷ join_with_byte slash (items (absolute_list segments))
after_authority context segments h =
    let p = absolute_list segments in
    let list = normal_segments p in
    let spelled = normalized-spelled context p list (length (each_closed list)) (first_or [] list) refl refl refl in
    grind (arith, normal_segments-is p, join-lone (items p))

-- ---- the last segment is cut off

closed-joined : (s : Text) (rest : List Text) → each_closed (s ∷ rest) ≡ join_with_byte slash (s ∷ rest) ++ slash ∷ []
closed-joined s [] = grind (arith, append-nil)
closed-joined s (t ∷ rest) = grind (arith, append_assoc, closed-joined t rest)

closed-pieces : (text : Text) → each_closed (pieces_at slash text) ≡ text ++ slash ∷ []
closed-pieces text = let some = some_piece slash text in grind (arith, closed-joined, join-pieces_at slash text)

-- a text up to a slash, and with it
through_slash : (text : Text) (at : ℕ) → at < length text → get_or text at 0 ≡ slash → take at text ++ slash ∷ [] ≡ take (at + 1) text
through_slash text at h e = grind (arith, add-one, take-suc)

-- all before the last segment
pub closed_to_last : (text : Text) (at : ℕ) → IsLastSlash text at → take (at + 1) text ≡ each_closed (all_but_last (pieces_at slash text))
closed_to_last text at h =
    let cut = pieces-cut_last text at h in
    grind (arith, all_but_last-snoc, closed-pieces (take at text), through_slash text at h.within h.slash_there)

pub closed_if_one : (text : Text) → LacksSlashFrom text 0 → [] ≡ each_closed (all_but_last (pieces_at slash text))
closed_if_one text h = grind (arith, pieces-uncut text (λ i within. h i (omega arith) within))

without_end : (text : Text) (c : ℕ) → take (length (text ++ c ∷ []) - 1) (text ++ c ∷ []) ≡ text
without_end text c = grind (arith, length-append, take_at)

popped-closed : (names : List Text) → list_all (lacks slash) names ≡ true → popped_text (each_closed names) ≡ each_closed (all_but_last names)
unfolding popped_text
popped-closed [] h = refl
popped-closed (s ∷ rest) h = grind (arith, closed-joined s rest, without_end, pieces_at-join slash s rest h)

-- ---- segment by segment

staying-lacks : (list : List Text) (n : ℕ) → list_all (lacks slash) list ≡ true → list_all (lacks slash) (staying_before list n) ≡ true
staying-lacks [] n h = refl
staying-lacks (s ∷ rest) n h = grind (arith, common_steps, staying-lacks rest n)

-- what is written after these segments
abbrev written : List Text → Text
written list = each_closed (staying_before list 0)

popped-written : (list : List Text) → list_all (lacks slash) list ≡ true → popped_text (written list) ≡ each_closed (staying_before list 1)
popped-written list h =
    let last : TakesLast (staying_before list 0) (staying_before list 1) (open_before list 0) (open_before list 1) = takes_last list 0 in
    popped-closed (staying_before list 0) (staying-lacks list 0 h) ∙ ap each_closed (sym last.names)

one-put : (list : List Text) (s : Text) → list_all (lacks slash) list ≡ true → segment_put (written list) s ≡ written (list ++ s ∷ [])
one-put list s h = grind (arith, append-nil, append_assoc, name_no_parent, popped-written list h, staying_before-append list (s ∷ []) 0, each_closed-append (staying_before list 0) (s ∷ []))

last-put : (list : List Text) (s : Text) → list_all (lacks slash) list ≡ true → last_put (written list) s ≡ join_with_byte slash (items (absolute_list (list ++ s ∷ [])))
last-put list s h =
    let joined = joined_before (staying_before list (open_before (s ∷ []) 0)) (cond (is_name s) s []) in
    grind (arith, append-nil, name_no_parent, popped-written list h, one_last list s)

all_names : (list : List Text) → is_some_dotted list ≡ false → list_all is_name list ≡ true
all_names [] h = refl
all_names (s ∷ rest) h = grind (arith, common_steps, dotless_name, all_names rest)

-- ---- all segments

forward-written : (list : List Text) (s : Text) (rest : List Text) → list_all (lacks slash) list ≡ true → list_all (lacks slash) (s ∷ rest) ≡ true
    → forward (written list) (s ∷ rest) ≡ join_with_byte slash (items (absolute_list (list ++ s ∷ rest)))
forward-written list s [] h k = last-put list s h
forward-written list s (t ∷ rest) h k =
    let more = forward-written (list ++ s ∷ []) t rest in
    grind (arith, common_steps, append_assoc, one-put list s h, more)

-- from the beginning
forward-list : (front : List Text) (s : Text) (rest : List Text) → list_all (lacks slash) (front ++ s ∷ rest) ≡ true → forward [] (front ++ s ∷ rest) ≡ join_with_byte slash (items (absolute_list (front ++ s ∷ rest)))
forward-list [] s rest h = forward-written [] s rest refl h
forward-list (t ∷ []) s rest h = forward-written [] t (s ∷ rest) refl h
forward-list (t ∷ u ∷ front) s rest h = forward-written [] t (u ∷ front ++ s ∷ rest) refl h

-- a list that ends in an empty segment is written with a `/` after each other one
forward-closed : (text : Text) (front : List Text) (s : Text) (rest : List Text) → forward (forward text (front ++ [] ∷ [])) (s ∷ rest) ≡ forward text (front ++ s ∷ rest)
forward-closed text [] s rest = ap (λ t. forward t (s ∷ rest)) (append-nil text)
forward-closed text (t ∷ []) s rest = forward-closed (segment_put text t) [] s rest
forward-closed text (t ∷ u ∷ front) s rest = forward-closed (segment_put text t) (u ∷ front) s rest

-- ---- names, as they stand

forward-names : (text : Text) (names : List Text) (s : Text) (rest : List Text) → list_all is_name names ≡ true → forward text (names ++ s ∷ rest) ≡ forward (text ++ each_closed names) (s ∷ rest)
forward-names text [] s rest h = ap (λ t. forward t (s ∷ rest)) (sym (append-nil text))
forward-names text (t ∷ []) s rest h = grind (arith, common_steps, append_assoc, append-nil)
forward-names text (t ∷ u ∷ names) s rest h =
    let more = forward-names (text ++ t ++ slash ∷ []) (u ∷ names) s rest in
    grind (arith, common_steps, append_assoc, more)

names-last : (text : Text) (s : Text) (rest : List Text) → list_all is_name (s ∷ rest) ≡ true → forward text (s ∷ rest) ≡ text ++ join_with_byte slash (s ∷ rest)
names-last text s [] h = grind (arith, common_steps)
names-last text s (t ∷ rest) h =
    let more = names-last (text ++ s ++ slash ∷ []) t rest in
    grind (arith, common_steps, append_assoc, more)

-- the first segments of a text, up to the first `/.`
module _ (text : Text) (at : ℕ) (none : (k : ℕ) → k < at → is_slash_dot text k ≡ false) where
  no_pair : (k : ℕ) → is_slash_dot (take at text) k ≡ false
  no_pair k = ⊎_elim (λ inside. grind (arith, nat_tests, get_or-take at text k 0, get_or-take at text (k + 1) 0, none k))
      (λ past. grind (arith, nat_tests, length-take, get_or_past (take at text) (k + 1) 0)) (cases_lt (k + 1) at)

  module _ (first : (s : Text) (rest : List Text) → pieces_at slash text ≡ s ∷ rest → is_name s ≡ true) where
    names_before : (more : List Text) → pieces_at slash text ≡ pieces_at slash (take at text) ++ more → list_all is_name (pieces_at slash (take at text)) ≡ true
    names_before more e =
        let some = some_piece slash (take at text) in
        let dotless = later_dotless (take at text) some.0 some.1 some.2 no_pair in
        let name = first some.0 (some.1 ++ more) (e ∙ ap (λ l. l ++ more) some.2) in
        grind (arith, common_steps, some.2, name, all_names some.1 dotless)

    pub names_to_dot : at < length text → is_slash_dot text at ≡ true → (before : Text)
        → forward before (pieces_at slash text) ≡ forward (before ++ take (at + 1) text) (pieces_at slash (drop (at + 1) text))
    names_to_dot within found before =
        let here : get_or text at 0 ≡ slash = eqb-true _ slash (and_parts (eqb (get_or text at 0) 0x2F) (eqb (get_or text (at + 1) 0) 0x2E) found).0 in
        let rest = drop (at + 1) text in
        let pieces : pieces_at slash text ≡ pieces_at slash (take at text) ++ pieces_at slash rest = around_pieces text at within here in
        let some = some_piece slash rest in
        let moved = forward-names before (pieces_at slash (take at text)) some.0 some.1 (names_before (pieces_at slash rest) pieces) in
        let put : each_closed (pieces_at slash (take at text)) ≡ take (at + 1) text = closed-pieces (take at text) ∙ through_slash text at within here in
        ap (forward before) (pieces ∙ ap (λ l. pieces_at slash (take at text) ++ l) some.2) ∙ moved ∙ (λ i. forward (before ++ put i) (sym some.2 i))

    pub names_to_end : at ≡ length text → (before : Text) → forward before (pieces_at slash text) ≡ forward (before ++ take at text) (pieces_at slash (drop at text))
    names_to_end all before =
        let whole : take at text ≡ text = grind (arith, take_all) in
        let nothing : drop at text ≡ [] = grind (arith, drop_all) in
        let some = some_piece slash text in
        let names = names_before [] (ap (pieces_at slash) (sym whole) ∙ sym (append-nil (pieces_at slash (take at text)))) in
        let put = names-last before some.0 some.1 in
        grind (arith, append-nil, some.2, join-pieces_at slash text)

-- ---- the path of a reference

pieces-closed : (list : List Text) → list_all (lacks slash) list ≡ true → pieces_at slash (each_closed list) ≡ list ++ [] ∷ []
pieces-closed [] h = refl
pieces-closed (s ∷ rest) h = grind (arith, common_steps, append_assoc, pieces_at-front slash s (each_closed rest), pieces-closed rest)

-- an absolute path
pub absolute_after : (context : PathContext) (base : PathValue) (path segments : Text) → context.has_authority ≡ true → path ≡ slash ∷ segments
    → slash ∷ forward [] (pieces_at slash segments) ≡ spell_path (normalized context (path_after true base (read_path path)))
absolute_after context base path segments h e =
    let some = some_piece slash segments in
    let list = forward-written [] some.0 some.1 refl (ap (list_all (lacks slash)) (sym some.2) ∙ lacks-pieces_at slash segments) in
    let read = read-absolute path segments (segments_of segments) e refl in
    grind (arith, some.2, read, join-segments true segments, after_authority context (segments_of segments) h)

some_segments : (path : Text) → path ≢ [] → segments_of path ≡ pieces_at slash path
some_segments [] h = absurd (h refl)
some_segments (c ∷ path) h = refl

merged_list : (base : PathValue) (front segments : List Text) → (base.absolute || is_empty base.segments) ≡ true → front ≡ all_but_last base.segments
    → path_after true base (record { absolute = false; segments = segments }) ≡ absolute_list (front ++ segments)
merged_list base front segments h e = grind arith

-- a relative path, after the directory of its base
pub relative_after : (context : PathContext) (base : PathValue) (below path closed : Text) → context.has_authority ≡ true → (base.absolute || is_empty base.segments) ≡ true
    → all_but_last (pieces_at slash below) ≡ all_but_last base.segments → path ≢ [] → ((rest : Text) → path ≢ slash ∷ rest) → closed ≡ each_closed (all_but_last (pieces_at slash below))
    → slash ∷ forward (forward [] (pieces_at slash closed)) (pieces_at slash path) ≡ spell_path (normalized context (path_after true base (read_path path)))
relative_after context base below path closed h k e some relative d =
    let front = all_but_last (pieces_at slash below) in
    let piece = some_piece slash path in
    let names : list_all (lacks slash) front ≡ true = in-shortened (lacks slash) (pieces_at slash below) (lacks-pieces_at slash below) in
    let lacks_all : list_all (lacks slash) (front ++ piece.0 ∷ piece.1) ≡ true = grind (arith, common_steps, piece.2, names, lacks-pieces_at slash path) in
    let dir : pieces_at slash closed ≡ front ++ [] ∷ [] = ap (pieces_at slash) d ∙ pieces-closed front names in
    let list : forward (forward [] (pieces_at slash closed)) (pieces_at slash path) ≡ join_with_byte slash (items (absolute_list (front ++ pieces_at slash path))) =
    (λ i. forward (forward [] (dir i)) (piece.2 i)) ∙ forward-closed [] front piece.0 piece.1 ∙ forward-list front piece.0 piece.1 lacks_all ∙ ap (λ l. join_with_byte slash (items (absolute_list (front ++ l)))) (sym piece.2) in
    let read = read-relative path (pieces_at slash path) relative (sym (some_segments path some)) in
    let whole = ap (path_after true base) read ∙ merged_list base front (pieces_at slash path) k e in
    ap (λ t. slash ∷ t) list ∙ sym (after_authority context (front ++ pieces_at slash path) h) ∙ ap (λ p. spell_path (normalized context p)) (sym whole)

-- ---- what is appended

module _ (old mid : Text) (floor : ℕ) (list : List Text) (root : mid ≡ old ++ slash ∷ []) (end : floor ≡ length mid) where
  nothing_there : drop floor mid ≡ []
  nothing_there = grind (arith, drop_all)

  all_there : take floor mid ≡ mid
  all_there = grind (arith, take_all)

  put_behind : (new : Text) → new ≡ take floor mid ++ forward (drop floor mid) list → new ≡ mid ++ forward [] list
  put_behind new e = e ∙ (λ i. all_there i ++ forward (nothing_there i) list)

  pub appended_once : (new : Text) → new ≡ take floor mid ++ forward (drop floor mid) list → new ≡ old ++ slash ∷ forward [] list
  appended_once new e = put_behind new e ∙ ap (λ t. t ++ forward [] list) root ∙ append_assoc old (slash ∷ []) (forward [] list)

  pub appended_twice : (between new : Text) (more : List Text) → between ≡ take floor mid ++ forward (drop floor mid) list → new ≡ take floor between ++ forward (drop floor between) more
      → new ≡ old ++ slash ∷ forward (forward [] list) more
  appended_twice between new more e f =
      let seen = put_behind between e in
      let front : take floor between ≡ mid = ap (take floor) seen ∙ grind (arith, take_at) in
      let back : drop floor between ≡ forward [] list = ap (drop floor) seen ∙ grind (arith, drop_at) in
      f ∙ (λ i. front i ++ forward (back i) more) ∙ ap (λ t. t ++ forward (forward [] list) more) root ∙ append_assoc old (slash ∷ []) (forward (forward [] list) more)

pub ruleset cut_off = (append-nil, drop_all, take_all)

pub ruleset appended = (on_ok_weaker, absolute_after, appended_once, appended_twice, relative_after)
