-- The path rules: their texts are the spellings of the paths that may stand there.
use Rattle.std.proofs.Common.{arith, ◌≡◌, Bool, true, false, not, ◌&&◌, ◌||◌, List, [], ◌∷◌, ◌++◌, refl, sym, ◌∙◌, ap, inl, inr, true≢false}
use Rattle.std.proofs.{Math.Logic.{◌↔◌}, lemmas.List.{append-nil}, lemmas.Bool.{not-true}, Math.Bool.{or-true}}
use Rattle.std.specs.List.{AllByRecursion, concat, join_with_byte}
use Rattle.iref_grammar.specs.{declared.context.PathContext.{PathContext}, Characters.{CharTests, AreAboveAscii}}
use Rattle.iref_grammar.specs.Rules.{Text, Rule, Empty, Mark, ◌⨾◌, ◌or◌, Optional, ZeroOrMore, InUtf8}
use Rattle.iref_grammar.specs.Grammar.{slash, colon, IsPathChar, IsSegment, IsNonEmptySegment, IsNonColonSegment, IsAbEmptyPath, IsRootlessPath, IsAbsolutePath}
use Rattle.iref_grammar.specs.{Texts.{is_empty}, PathValue.{PathValue, spell_path, shows_its_list, begins_empty}}
use Rattle.iref_grammar.specs.Contexts.{follows_authority, is_no_authority, is_no_scheme, reads_as_path}
use Rattle.iref_grammar.proofs.{TextLemmas.{lacks, first_of_both, second_of_both}, RuleLemmas.{none_of, one_more}}
use Rattle.iref_grammar.proofs.Utf8RuleLemmas.{in_utf8-joined, in_utf8-or, in_utf8-more, in_utf8-empty, in_utf8-mark}
use Rattle.iref_grammar.proofs.SegmentRuleLemmas.{in_utf8-nonempty, in_utf8-non_colon}

-- `/` before each segment
abbrev pub slashed : List Text → Text
slashed [] = []
slashed (s ∷ ss) = slash ∷ (s ++ slashed ss)

pub join-slashed : (s : Text) (ss : List Text) → join_with_byte slash (s ∷ ss) ≡ s ++ slashed ss
join-slashed s [] = sym (append-nil s)
join-slashed s (t ∷ ss) = ap (λ r. s ++ slash ∷ r) (join-slashed t ss)

abbrev pub AreSegments : CharTests → List Text → Type 0
AreSegments set ss = AllByRecursion (InUtf8 (IsSegment set)) ss

-- bytes that some path spells which may stand in the context
pub record IsPathIn (set : CharTests) (context : PathContext) (bytes : Text) : Type 0 where
  pub path : PathValue
  pub segments : AreSegments set path.segments
  pub follows : follows_authority context path ≡ true
  pub reads : reads_as_path context path ≡ true
  pub spelled : spell_path path ≡ bytes

-- a segment that is not empty, or holds no `:` where no scheme stands before it
abbrev pub IsFirst : CharTests → Bool → Rule
IsFirst set true = IsNonEmptySegment set
IsFirst set false = IsNonColonSegment set

-- a path that begins with it
abbrev pub IsStart : CharTests → Bool → Rule
IsStart set has_scheme = IsFirst set has_scheme ⨾ IsAbEmptyPath set

-- ---- tests of paths

absolute_no_scheme : (b x : Bool) → (((b || false) || true) || x) ≡ true
absolute_no_scheme true x = refl
absolute_no_scheme false x = refl

relative_no_scheme : (b x : Bool) → (b || x) ≡ true → (((b || false) || false) || x) ≡ true
relative_no_scheme true x h = refl
relative_no_scheme false x h = h

no_scheme_relative : (b x : Bool) → (((b || false) || false) || x) ≡ true → (b || x) ≡ true
no_scheme_relative true x h = refl
no_scheme_relative false x h = h

-- after an authority
reads_after : (b : Bool) (p : PathValue) → shows_its_list p ≡ true → reads_as_path (record { has_scheme = b; has_authority = true }) p ≡ true
reads_after true p h = λ i. (h i && true) && true
reads_after false p h = λ i. (h i && true) && true

-- without one
absolute_reads : (b : Bool) (ss : List Text) → begins_empty ss ≡ false → reads_as_path (record { has_scheme = b; has_authority = false }) (record { absolute = true; segments = ss }) ≡ true
absolute_reads b [] h = absolute_no_scheme b true
absolute_reads b (s ∷ ss) h = grind arith

relative_reads : (b : Bool) (s : Text) (ss : List Text) → is_empty s ≡ false → (b || lacks colon s) ≡ true → reads_as_path (record { has_scheme = b; has_authority = false }) (record { absolute = false; segments = s ∷ ss }) ≡ true
relative_reads b s ss h k = grind arith

module _ (set : CharTests) (above : AreAboveAscii set) where
  -- ---- `*( "/" segment )`

  abbrev pub IsSlashed : Rule
  IsSlashed bytes = (ss : List Text) × AreSegments set ss × (slashed ss ≡ bytes)

  pub in_utf8-ab_empty : (bytes : Text) → InUtf8 (IsAbEmptyPath set) bytes ↔ IsSlashed bytes
  in_utf8-ab_empty bytes = (
    λ z. let m = (in_utf8-more (Mark slash ⨾ IsSegment set) bytes).0 z in let s = there m.0 m.1 in (s.0, s.1, s.2 ∙ m.2),
    λ z. (in_utf8-more (Mark slash ⨾ IsSegment set) bytes).1 (Rattle.std.proofs.Common.subst (ZeroOrMore (InUtf8 (Mark slash ⨾ IsSegment set))) z.2 (back z.0 z.1)),
  )
    where
      there : (pieces : List Text) → AllByRecursion (InUtf8 (Mark slash ⨾ IsSegment set)) pieces → IsSlashed (concat pieces)
      there [] all = ([], tt, refl)
      there (p ∷ pieces) all =
          let j = (in_utf8-joined (Mark slash) (IsSegment set) p).0 all.0 in
          let r = there pieces all.1 in
          (j.1 ∷ r.0, (j.3, r.1), (λ i. (sym ((in_utf8-mark slash refl j.0).0 j.2) i ++ j.1) ++ r.2 i) ∙ ap (λ t. t ++ concat pieces) j.4)

      back : (ss : List Text) → AreSegments set ss → ZeroOrMore (InUtf8 (Mark slash ⨾ IsSegment set)) (slashed ss)
      back [] all = none_of (InUtf8 (Mark slash ⨾ IsSegment set))
      back (s ∷ ss) all =
          one_more (InUtf8 (Mark slash ⨾ IsSegment set)) (slash ∷ s) (slashed ss)
          ((in_utf8-joined (Mark slash) (IsSegment set) (slash ∷ s)).1 (slash ∷ [], s, (in_utf8-mark slash refl (slash ∷ [])).1 refl, all.0, refl)) (back ss all.1)

  -- ---- a path that begins with a segment

  in_utf8-first : (b : Bool) (bytes : Text) → InUtf8 (IsFirst set b) bytes ↔ (InUtf8 (IsSegment set) bytes × (is_empty bytes ≡ false) × ((b || lacks colon bytes) ≡ true))
  in_utf8-first true bytes = (λ z. let r = (in_utf8-nonempty set bytes).0 z in (r.0, r.1, refl), λ z. (in_utf8-nonempty set bytes).1 (z.0, z.1))
  in_utf8-first false bytes = in_utf8-non_colon set above bytes

  abbrev pub IsStarted : Bool → Rule
  IsStarted b bytes = (s : Text) × (ss : List Text) × InUtf8 (IsSegment set) s × (is_empty s ≡ false) × ((b || lacks colon s) ≡ true) × AreSegments set ss × (s ++ slashed ss ≡ bytes)

  pub in_utf8-start : (b : Bool) (bytes : Text) → InUtf8 (IsStart set b) bytes ↔ IsStarted b bytes
  in_utf8-start b bytes = (there, back)
    where
      there : InUtf8 (IsStart set b) bytes → IsStarted b bytes
      there z =
          let j = (in_utf8-joined (IsFirst set b) (IsAbEmptyPath set) bytes).0 z in
          let f = (in_utf8-first b j.0).0 j.2 in
          let r = (in_utf8-ab_empty j.1).0 j.3 in
          (j.0, r.0, f.0, f.1, f.2, r.1, ap (λ t. j.0 ++ t) r.2 ∙ j.4)

      back : IsStarted b bytes → InUtf8 (IsStart set b) bytes
      back z = (in_utf8-joined (IsFirst set b) (IsAbEmptyPath set) bytes).1 (z.0, slashed z.1, (in_utf8-first b z.0).1 (z.2, z.3, z.4), (in_utf8-ab_empty (slashed z.1)).1 (z.1, z.5, refl), z.6)

  -- ---- an absolute path

  abbrev pub IsRooted : Rule
  IsRooted bytes = (ss : List Text) × AreSegments set ss × (begins_empty ss ≡ false) × (slash ∷ join_with_byte slash ss ≡ bytes)

  pub in_utf8-absolute : (bytes : Text) → InUtf8 (IsAbsolutePath set) bytes ↔ IsRooted bytes
  in_utf8-absolute bytes = (there, λ z. (in_utf8-joined (Mark slash) (Optional (IsRootlessPath set)) bytes).1 (slash ∷ [], join_with_byte slash z.0, (in_utf8-mark slash refl (slash ∷ [])).1 refl, back z.0 z.1 z.2, z.3))
    where
      rest_of : (rest : Text) → (InUtf8 Empty or InUtf8 (IsRootlessPath set)) rest → (ss : List Text) × AreSegments set ss × (begins_empty ss ≡ false) × (join_with_byte slash ss ≡ rest)
      rest_of rest (inl e) = ([], tt, refl, sym ((in_utf8-empty rest).0 e))
      rest_of rest (inr r) = let s = (in_utf8-start true rest).0 r in (s.0 ∷ s.1, (s.2, s.5), s.3, join-slashed s.0 s.1 ∙ s.6)

      there : InUtf8 (IsAbsolutePath set) bytes → IsRooted bytes
      there z =
          let j = (in_utf8-joined (Mark slash) (Optional (IsRootlessPath set)) bytes).0 z in
          let r = rest_of j.1 ((in_utf8-or Empty (IsRootlessPath set) j.1).0 j.3) in
          (r.0, r.1, r.2, (λ i. sym ((in_utf8-mark slash refl j.0).0 j.2) i ++ r.3 i) ∙ j.4)

      back : (ss : List Text) → AreSegments set ss → begins_empty ss ≡ false → InUtf8 (Optional (IsRootlessPath set)) (join_with_byte slash ss)
      back [] all h = (in_utf8-or Empty (IsRootlessPath set) []).1 (inl ((in_utf8-empty []).1 refl))
      back (s ∷ ss) all h =
          let t = join_with_byte slash (s ∷ ss) in
          (in_utf8-or Empty (IsRootlessPath set) t).1 (inr ((in_utf8-start true t).1 (s, ss, all.0, h, refl, all.1, sym (join-slashed s ss))))

  -- ---- a path after an authority

  empty_segment : InUtf8 (IsSegment set) []
  empty_segment = ([], refl, refl, none_of (IsPathChar set))

  pub in_utf8-after_authority : (b : Bool) (bytes : Text) → InUtf8 (IsAbEmptyPath set) bytes ↔ IsPathIn set (record { has_scheme = b; has_authority = true }) bytes
  unfolding spell_path
  in_utf8-after_authority b bytes = (
    λ z. let s = (in_utf8-ab_empty bytes).0 z in there s.0 s.1 s.2,
    λ p. (in_utf8-ab_empty bytes).1 (back p.path.absolute p.path.segments p.segments p.follows p.spelled),
  )
    where
      there : (ss : List Text) → AreSegments set ss → slashed ss ≡ bytes → IsPathIn set (record { has_scheme = b; has_authority = true }) bytes
      there [] all e = record { path = record { absolute = false; segments = [] }; segments = tt; follows = refl; reads = reads_after b (record { absolute = false; segments = [] }) refl; spelled = e }
      there ([] ∷ []) all e = record { path = record { absolute = true; segments = [] }; segments = tt; follows = refl; reads = reads_after b (record { absolute = true; segments = [] }) refl; spelled = e }
      there ([] ∷ s ∷ ss) all e = record { path = record { absolute = true; segments = [] ∷ s ∷ ss }; segments = all; follows = refl; reads = reads_after b (record { absolute = true; segments = [] ∷ s ∷ ss }) refl; spelled = ap (λ t. slash ∷ t) (join-slashed [] (s ∷ ss)) ∙ e }
      there ((c ∷ cs) ∷ ss) all e = record { path = record { absolute = true; segments = (c ∷ cs) ∷ ss }; segments = all; follows = refl; reads = reads_after b (record { absolute = true; segments = (c ∷ cs) ∷ ss }) refl; spelled = ap (λ t. slash ∷ t) (join-slashed (c ∷ cs) ss) ∙ e }

      back : (absolute : Bool) (segments : List Text) → AreSegments set segments → follows_authority (record { has_scheme = b; has_authority = true }) (record { absolute = absolute; segments = segments }) ≡ true → spell_path (record { absolute = absolute; segments = segments }) ≡ bytes → IsSlashed bytes
      back true [] all f e = ([] ∷ [], (empty_segment, tt), e)
      back true (s ∷ ss) all f e = (s ∷ ss, all, ap (λ t. slash ∷ t) (sym (join-slashed s ss)) ∙ e)
      back false [] all f e = ([], tt, e)
      back false (s ∷ ss) all f e = absurd (true≢false (sym f))

  -- ---- a path with no authority before it

  abbrev pub IsAlonePath : Bool → Rule
  IsAlonePath b = IsAbsolutePath set or IsStart set b or Empty

  pub in_utf8-alone : (b : Bool) (bytes : Text) → InUtf8 (IsAlonePath b) bytes ↔ IsPathIn set (record { has_scheme = b; has_authority = false }) bytes
  unfolding spell_path in_utf8-start
  in_utf8-alone b bytes = (
    λ z. there ((in_utf8-or (IsAbsolutePath set) (IsStart set b or Empty) bytes).0 z),
    λ p. (in_utf8-or (IsAbsolutePath set) (IsStart set b or Empty) bytes).1 (back p.path.absolute p.path.segments p.segments p.reads p.spelled),
  )
    where
      relative : (InUtf8 (IsStart set b) or InUtf8 Empty) bytes → IsPathIn set (record { has_scheme = b; has_authority = false }) bytes
      relative (inl z) =
          let s = (in_utf8-start b bytes).0 z in
          record { path = record { absolute = false; segments = s.0 ∷ s.1 }; segments = (s.2, s.5); follows = refl; reads = relative_reads b s.0 s.1 s.3 s.4; spelled = join-slashed s.0 s.1 ∙ s.6 }
      relative (inr z) =
          record { path = record { absolute = false; segments = [] }; segments = tt; follows = refl; reads = relative_no_scheme b true (or-true b); spelled = sym ((in_utf8-empty bytes).0 z) }

      there : (InUtf8 (IsAbsolutePath set) or InUtf8 (IsStart set b or Empty)) bytes → IsPathIn set (record { has_scheme = b; has_authority = false }) bytes
      there (inl z) =
          let r = (in_utf8-absolute bytes).0 z in
          record { path = record { absolute = true; segments = r.0 }; segments = r.1; follows = refl; reads = absolute_reads b r.0 r.2; spelled = r.3 }
      there (inr z) = relative ((in_utf8-or (IsStart set b) Empty bytes).0 z)

      back : (absolute : Bool) (segments : List Text) → AreSegments set segments → reads_as_path (record { has_scheme = b; has_authority = false }) (record { absolute = absolute; segments = segments }) ≡ true → spell_path (record { absolute = absolute; segments = segments }) ≡ bytes → (InUtf8 (IsAbsolutePath set) or InUtf8 (IsStart set b or Empty)) bytes
      back true [] all r e = inl ((in_utf8-absolute bytes).1 ([], tt, refl, e))
      back true (s ∷ ss) all r e =
          let p : PathValue = record { absolute = true; segments = s ∷ ss } in
          let context : PathContext = record { has_scheme = b; has_authority = false } in
          let n = second_of_both (shows_its_list p) (is_no_authority context p) (first_of_both (shows_its_list p && is_no_authority context p) (is_no_scheme context p) r) in
          inl ((in_utf8-absolute bytes).1 (s ∷ ss, all, not-true (is_empty s) n, e))
      back false [] all r e = inr ((in_utf8-or (IsStart set b) Empty bytes).1 (inr ((in_utf8-empty bytes).1 (sym e))))
      back false (s ∷ ss) all r e =
          let p : PathValue = record { absolute = false; segments = s ∷ ss } in
          let context : PathContext = record { has_scheme = b; has_authority = false } in
          let n = first_of_both (shows_its_list p) (is_no_authority context p) (first_of_both (shows_its_list p && is_no_authority context p) (is_no_scheme context p) r) in
          let k = no_scheme_relative b (lacks colon s) (second_of_both (shows_its_list p && is_no_authority context p) (is_no_scheme context p) r) in
          inr ((in_utf8-or (IsStart set b) Empty bytes).1 (inl ((in_utf8-start b bytes).1 (s, ss, all.0, not-true (is_empty s) n, k, all.1, sym (join-slashed s ss) ∙ e))))
