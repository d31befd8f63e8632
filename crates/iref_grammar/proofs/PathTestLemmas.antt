-- Paths: each test, by its one reading, decides its rule.
use Rattle.std.proofs.Common.{arith, ◌≡◌, Bool, true, false, ◌&&◌, List, [], ◌∷◌, ◌++◌, refl, sym, ◌∙◌, ap, subst, append_assoc, inl, inr}
use Rattle.std.proofs.{Math.Logic.{◌↔◌}, lemmas.Bool.Decides.{Decides-like, same_from_decides}}
use Rattle.std.proofs.lemmas.Bool.{and_from, and_parts}
use Rattle.std.specs.{Bool.{Decides}, List.{AllByRecursion, concat, list_all, join_with_byte}}
use Rattle.iref_grammar.specs.{declared.context.PathContext.{PathContext}, Characters.{CharTests, AreAboveAscii}}
use Rattle.iref_grammar.specs.Rules.{Text, Rule, Empty, Mark, ◌or◌, ZeroOrMore, InUtf8}
use Rattle.iref_grammar.specs.Grammar.{slash, IsPathChar, IsSegment, IsAbEmptyPath, IsAbsolutePath, IsRootlessPath, IsNoSchemePath, IsPath}
use Rattle.iref_grammar.specs.{Texts.{pieces_at}, Tests.{is_segment, is_path}}
use Rattle.iref_grammar.specs.PathValue.{PathValue, spell_path, shows_its_list, read_path}
use Rattle.iref_grammar.specs.Contexts.{follows_authority, is_no_authority, is_no_scheme, reads_as_path, fits, is_readable_path, is_path_in, alone}
use Rattle.iref_grammar.proofs.TextLemmas.{lacks, first_of_both, second_of_both, pieces_at-join}
use Rattle.iref_grammar.proofs.{RuleLemmas.{none_of, one_more, more_like, more-append}, LeafLemmas.{Decides-is_segment}}
use Rattle.iref_grammar.proofs.PathLemmas.{read_path-reads, read_path-only}
use Rattle.iref_grammar.proofs.ComponentLackLemmas.{slash_cuts, segments_lack}
use Rattle.iref_grammar.proofs.{Utf8RuleLemmas.{in_utf8-or, in_utf8-more, in_utf8-mark}, PartRuleLemmas.{Decides-all}}
use Rattle.iref_grammar.proofs.PathRuleLemmas.{AreSegments, IsPathIn, in_utf8-after_authority, in_utf8-alone}
use Rattle.iref_grammar.proofs.PathTextLemmas.{PathPiece, Decides-is_path}

module _ (set : CharTests) (above : AreAboveAscii set) where
  -- ---- the segments of such a text are segments

  -- a list that is not empty, joined
  abbrev IsJoined : Rule
  IsJoined bytes = (s : Text) × (ss : List Text) × AreSegments set (s ∷ ss) × (join_with_byte slash (s ∷ ss) ≡ bytes)

  join_front : (p s : Text) (ss : List Text) → join_with_byte slash ((p ++ s) ∷ ss) ≡ p ++ join_with_byte slash (s ∷ ss)
  join_front p s [] = refl
  join_front p s (t ∷ ss) = append_assoc p s (slash ∷ join_with_byte slash (t ∷ ss))

  no_segment : InUtf8 (IsSegment set) []
  no_segment = ([], refl, refl, none_of (IsPathChar set))

  longer : (p s : Text) → InUtf8 (IsPathChar set) p → InUtf8 (IsSegment set) s → InUtf8 (IsSegment set) (p ++ s)
  longer p s a b =
      let m = (in_utf8-more (IsPathChar set) s).0 b in (in_utf8-more (IsPathChar set) (p ++ s)).1 (one_more (InUtf8 (IsPathChar set)) p s a m)

  joined_pieces : (pieces : List Text) → AllByRecursion (InUtf8 (PathPiece set)) pieces → IsJoined (concat pieces)
  joined_pieces [] all = ([], [], (no_segment, tt), refl)
  joined_pieces (p ∷ pieces) all = by ((in_utf8-or (IsPathChar set) (Mark slash) p).0 all.0) (joined_pieces pieces all.1)
    where
      by : (InUtf8 (IsPathChar set) or InUtf8 (Mark slash)) p → IsJoined (concat pieces) → IsJoined (p ++ concat pieces)
      by (inl a) j = (p ++ j.0, j.1, (longer p j.0 a j.2.0, j.2.1), join_front p j.0 j.1 ∙ ap (λ t. p ++ t) j.3)
      by (inr m) j = ([], j.0 ∷ j.1, (no_segment, j.2), λ i. sym ((in_utf8-mark slash refl p).0 m) i ++ j.3 i)

  segments_tested : (ss : List Text) → Decides (list_all (is_segment set) ss) (AreSegments set ss)
  segments_tested ss = Decides-all (is_segment set) (InUtf8 (IsSegment set)) (Decides-is_segment set above) ss

  all_lack : (ss : List Text) → AreSegments set ss → list_all (lacks slash) ss ≡ true
  all_lack ss all = segments_lack set above slash slash_cuts refl ss ((segments_tested ss).1 all)

  pieces_are_segments : (bytes : Text) → IsJoined bytes → AreSegments set (pieces_at slash bytes)
  pieces_are_segments bytes j =
      subst (AreSegments set) (sym (ap (pieces_at slash) (sym j.3) ∙ pieces_at-join slash j.0 j.1 (all_lack (j.0 ∷ j.1) j.2))) j.2

  read_segments : (bytes : Text) → AreSegments set (pieces_at slash bytes) → AreSegments set (read_path bytes).segments
  unfolding read_path
  read_segments [] all = tt
  read_segments (c ∷ cs) all = grind arith

  -- segments with `/` between them
  slash_piece : InUtf8 (PathPiece set) (slash ∷ [])
  slash_piece = (in_utf8-or (IsPathChar set) (Mark slash) (slash ∷ [])).1 (inr ((in_utf8-mark slash refl (slash ∷ [])).1 refl))

  segment_pieces : (s : Text) → InUtf8 (IsSegment set) s → ZeroOrMore (InUtf8 (PathPiece set)) s
  segment_pieces s a = (in_utf8-more (PathPiece set) s).0 (a.0, a.1, a.2, more_like (IsPathChar set) (PathPiece set) (λ p x. inl x) a.0 a.3)

  join_pieces : (ss : List Text) → AreSegments set ss → ZeroOrMore (InUtf8 (PathPiece set)) (join_with_byte slash ss)
  join_pieces [] all = none_of (InUtf8 (PathPiece set))
  join_pieces (s ∷ []) all = segment_pieces s all.0
  join_pieces (s ∷ t ∷ ss) all =
      let rest = join_with_byte slash (t ∷ ss) in
      more-append (InUtf8 (PathPiece set)) s (slash ∷ rest) (segment_pieces s all.0) (one_more (InUtf8 (PathPiece set)) (slash ∷ []) rest slash_piece (join_pieces (t ∷ ss) all.1))

  spelled_pieces : (absolute : Bool) (ss : List Text) → AreSegments set ss → ZeroOrMore (InUtf8 (PathPiece set)) (spell_path (record { absolute = absolute; segments = ss }))
  unfolding spell_path
  spelled_pieces true ss all = one_more (InUtf8 (PathPiece set)) (slash ∷ []) (join_with_byte slash ss) slash_piece (join_pieces ss all)
  spelled_pieces false ss all = join_pieces ss all

  in_utf8-path : (bytes : Text) → InUtf8 (IsPath set) bytes ↔ AreSegments set (read_path bytes).segments
  in_utf8-path bytes = (
    λ z. let m = (in_utf8-more (PathPiece set) bytes).0 z in read_segments bytes (pieces_are_segments bytes (subst IsJoined m.2 (joined_pieces m.0 m.1))),
    λ all. (in_utf8-more (PathPiece set) bytes).1 (subst (ZeroOrMore (InUtf8 (PathPiece set))) (read_path-reads bytes).spelled (spelled_pieces (read_path bytes).absolute (read_path bytes).segments all)),
  )

  pub is_path-segments : (bytes : Text) → is_path set bytes ≡ list_all (is_segment set) (read_path bytes).segments
  is_path-segments bytes =
      same_from_decides (is_path set bytes) (list_all (is_segment set) (read_path bytes).segments) (Decides-is_path set above bytes)
      (Decides-like (list_all (is_segment set) (read_path bytes).segments) (in_utf8-path bytes).1 (in_utf8-path bytes).0 (segments_tested (read_path bytes).segments))

  -- ---- a path where it stands

  Decides-is_path_in : (context : PathContext) (bytes : Text) → Decides (is_path_in set context bytes) (IsPathIn set context bytes)
  Decides-is_path_in context bytes = (there, back)
    where
      there : is_path_in set context bytes ≡ true → IsPathIn set context bytes
      there h =
          let p = read_path bytes in
          let s = list_all (is_segment set) p.segments in
          let f = follows_authority context p in
          let r = reads_as_path context p in
          let fit = second_of_both s (f && r) h in
          record { path = p; segments = (segments_tested p.segments).0 (first_of_both s (f && r) h); follows = first_of_both f r fit; reads = second_of_both f r fit; spelled = (read_path-reads bytes).spelled }

      back : IsPathIn set context bytes → is_path_in set context bytes ≡ true
      back z =
          let p = z.path in
          let shown = first_of_both (shows_its_list p) (is_no_authority context p) (first_of_both (shows_its_list p && is_no_authority context p) (is_no_scheme context p) z.reads) in
          let read : read_path bytes ≡ p = read_path-only bytes p (record { segments = all_lack p.segments z.segments; shown = shown; spelled = z.spelled }) in
          ap (is_readable_path set context) read
          ∙ and_from (list_all (is_segment set) p.segments) (fits context p) ((segments_tested p.segments).1 z.segments) (and_from (follows_authority context p) (reads_as_path context p) z.follows z.reads)

  -- a readable path is the one that is read from its text
  pub readable_path_back : (context : PathContext) (p : PathValue) → is_readable_path set context p ≡ true → read_path (spell_path p) ≡ p
  readable_path_back context p h =
      let parts = and_parts (list_all (is_segment set) p.segments) (fits context p) h in
      let shown = and_parts (shows_its_list p && is_no_authority context p) (is_no_scheme context p) (and_parts (follows_authority context p) (reads_as_path context p) parts.1).1 in
      read_path-only (spell_path p) p
      (record { segments = all_lack p.segments ((segments_tested p.segments).0 parts.0); shown = (and_parts (shows_its_list p) (is_no_authority context p) shown.0).0; spelled = refl })

  -- so its text is one of a path in the context
  pub readable_path_text : (context : PathContext) (p : PathValue) → is_readable_path set context p ≡ true → is_path_in set context (spell_path p) ≡ true
  readable_path_text context p h = ap (is_readable_path set context) (readable_path_back context p h) ∙ h

  pub Decides-after_authority : (has_scheme : Bool) (bytes : Text) → Decides (is_path_in set (record { has_scheme = has_scheme; has_authority = true }) bytes) (InUtf8 (IsAbEmptyPath set) bytes)
  Decides-after_authority has_scheme bytes =
      let context : PathContext = record { has_scheme = has_scheme; has_authority = true } in
      let same = in_utf8-after_authority set above has_scheme bytes in Decides-like (is_path_in set context bytes) same.1 same.0 (Decides-is_path_in context bytes)

  pub Decides-after_scheme : (bytes : Text) → Decides (is_path_in set (record { has_scheme = true; has_authority = false }) bytes) (InUtf8 (IsAbsolutePath set or IsRootlessPath set or Empty) bytes)
  Decides-after_scheme bytes =
      let context : PathContext = record { has_scheme = true; has_authority = false } in
      let same = in_utf8-alone set above true bytes in Decides-like (is_path_in set context bytes) same.1 same.0 (Decides-is_path_in context bytes)

  pub Decides-alone : (bytes : Text) → Decides (is_path_in set alone bytes) (InUtf8 (IsAbsolutePath set or IsNoSchemePath set or Empty) bytes)
  Decides-alone bytes = let same = in_utf8-alone set above false bytes in Decides-like (is_path_in set alone bytes) same.1 same.0 (Decides-is_path_in alone bytes)
