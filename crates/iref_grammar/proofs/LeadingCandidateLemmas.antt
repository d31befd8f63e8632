-- Tests of both paths tell which candidates lead to the target's text.
use Rattle.std.proofs.Common.{◌≡◌, ◌≤◌, nat_le, Bool, true, false, not, cond, ◌&&◌, List, [], ◌∷◌, ◌++◌, length, refl, sym, ◌∙◌, ap, subst, arith, Option, None, is_some, option_map, codes, bytes_eq}
use Rattle.std.proofs.{lemmas.Bool.{and_parts, and_from, leb-true, le-leb}, lemmas.Slice.Eq.{bytes_eq-Decides}, lemmas.Grind.{common_steps}}
use Rattle.iref_grammar.specs.{Characters.{CharTests}, Rules.{Text}, Grammar.{colon, hash_sign, question_mark}}
use Rattle.iref_grammar.specs.Texts.{part_then, then_part, is_empty, all_but_last}
use Rattle.iref_grammar.specs.{Authority.{AuthorityValue, spell_authority}, PathValue.{PathValue, spell_path}}
use Rattle.iref_grammar.specs.Contexts.{alone, follows_authority}
use Rattle.iref_grammar.specs.Reference.{ReferenceValue, context_of, spell, is_readable}
use Rattle.iref_grammar.proofs.ReadablePartsLemmas.{readable_parts}
use Rattle.iref_grammar.specs.{Guard.{guarded}, ComponentSteps.{with_normal_path}}
use Rattle.iref_grammar.specs.{NormalList.{count_parents, normal, normal_segments, kept_segments}, Resolution.{resolved}}
use Rattle.iref_grammar.specs.Relative.{with_only_path}
use Rattle.iref_grammar.specs.Relativized.{same_scheme_text, same_authority_text, same_path_text, same_query_text, authority_text, query_text, empty_path, base_directory, steps_by_text, shortened, relative_path, is_climb, fragment_alone, climb_shortened, is_exact}
use Rattle.iref_grammar.specs.{RelativizedLaws.{AreReadable, LeadsExactly}, RelativizedTests.{is_settled, is_reachable}}
use Rattle.iref_grammar.proofs.{FitsLemmas.{is_empty-snoc}, RelativeLemmas.{parts}}
use Rattle.iref_grammar.proofs.{ReferenceStepLemmas.{with_normal_path-readable}, SettledLemmas.{normal_again}}
use Rattle.iref_grammar.proofs.{NormalPathLemmas.{normal-normalized}, WalkLemmas.{alike-shortened}, WeightLemmas.{path}}
use Rattle.iref_grammar.proofs.{AddedLemmas.{guarded-same}, FullCaseLemmas.{climb-normal, flag_kept}}
use Rattle.iref_grammar.proofs.PlacedLemmas.{only, placed, merged-is, follows-merged, root_resolved, relative_resolved}
use Rattle.iref_grammar.proofs.ReadableAnswerLemmas.{normal-passes, guarded-passes, relative-passes, authority-passes, climb-passes}
use Rattle.iref_grammar.proofs.CoveredLemmas.{readable-fits, one_value, exact_value}
use Rattle.iref_grammar.proofs.ReachableLemmas.{parents-kept, reached_high, steps_lead}

-- ---- texts

same_bytes : (one other : Text) → bytes_eq one other ≡ true → one ≡ other
same_bytes one other h = (bytes_eq-Decides one other).0 h

-- the text of a reference is made of the texts of its components
spell-same : (scheme other_scheme : Option Text) (authority other_authority : Option AuthorityValue) (p other : PathValue) (query other_query fragment : Option Text)
    → part_then (colon ∷ []) scheme ≡ part_then (colon ∷ []) other_scheme
    → then_part (codes "//") (option_map spell_authority authority) ≡ then_part (codes "//") (option_map spell_authority other_authority)
    → spell_path p ≡ spell_path other → then_part (question_mark ∷ []) query ≡ then_part (question_mark ∷ []) other_query
    → spell (parts scheme authority p query fragment) ≡ spell (parts other_scheme other_authority other other_query fragment)
unfolding spell
spell-same scheme other_scheme authority other_authority p other query other_query fragment a b c d = λ i. a i ++ b i ++ c i ++ d i ++ then_part (hash_sign ∷ []) fragment

-- a scheme is there where its text is
same_some : (one other : Option Text) → part_then (colon ∷ []) one ≡ part_then (colon ∷ []) other → is_some one ≡ is_some other
same_some one other e = let size = ap length e in grind (arith, common_steps)

same_some-authority : (one other : Option AuthorityValue) → then_part (codes "//") (option_map spell_authority one) ≡ then_part (codes "//") (option_map spell_authority other) → is_some one ≡ is_some other
same_some-authority one other e = grind arith

-- ---- what a reference with a scheme resolves to

resolved-itself : (base r : ReferenceValue) → is_some r.scheme ≡ true → resolved base r ≡ with_normal_path r
unfolding resolved
resolved-itself base r full = grind arith

-- ---- the tests

-- two tests, each of which implies the other
same_test : (a b : Bool) → (a ≡ true → b ≡ true) → (b ≡ true → a ≡ true) → a ≡ b
same_test a b f g = grind arith

-- ---- the steps from a directory

same_flag : (flag absolute : Bool) → cond flag absolute (not absolute) ≡ true → absolute ≡ flag
same_flag flag absolute h = grind arith

flag_from : (flag absolute : Bool) → absolute ≡ flag → cond flag absolute (not absolute) ≡ true
flag_from flag absolute e = grind arith

-- they lead to the path's normal list
placed_steps : (flag : Bool) (directory : List Text) (p : PathValue) → p.absolute ≡ flag → count_parents (kept_segments (path flag directory)) ≤ count_parents (normal_segments p)
    → path flag (normal_segments (path flag (directory ++ shortened (steps_by_text (kept_segments (path flag directory)) (normal_segments p))))) ≡ normal p
placed_steps flag directory p e =
    subst
    (λ f. count_parents (kept_segments (path f directory)) ≤ count_parents (normal_segments p) → path f (normal_segments (path f (directory ++ shortened (steps_by_text (kept_segments (path f directory)) (normal_segments p))))) ≡ normal p)
    e
    (λ high. let kept = parents-kept p.absolute directory in ap (path p.absolute) (steps_lead p.absolute directory p.segments (omega arith)).1)

module _ (set : CharTests) (target base : ReferenceValue) (are : AreReadable set target base) where
  -- where a reference leads to the normal target, it leads to the target where that is settled
  settled_test : (r : ReferenceValue) → is_readable set r ≡ true → spell (resolved base r) ≡ spell (with_normal_path target) → is_exact target base r ≡ is_settled target
  settled_test r readable leads = same_test (is_exact target base r) (is_settled target) there back
    where
      there : is_exact target base r ≡ true → is_settled target ≡ true
      there h =
          let exact : LeadsExactly base r target = same_bytes (spell (resolved base r)) (spell target) h in
          let same : with_normal_path target ≡ target = one_value set are.characters (with_normal_path target) target (with_normal_path-readable set target are.readable_target) are.readable_target (sym leads ∙ exact) in
          (bytes_eq-Decides (spell_path (with_normal_path target).path) (spell_path target.path)).1 (ap (λ (s : ReferenceValue). spell_path s.path) same)

      back : is_settled target ≡ true → is_exact target base r ≡ true
      back h =
          let text = same_bytes (spell_path (with_normal_path target).path) (spell_path target.path) h in
          (bytes_eq-Decides (spell (resolved base r)) (spell target)).1
          (leads ∙ spell-same target.scheme target.scheme target.authority target.authority (with_normal_path target).path target.path target.query target.query target.fragment refl refl text refl)

  readable : is_readable set target ≡ true
  readable = are.readable_target

  -- ---- with a scheme

  pub whole-test : is_some target.scheme ≡ true → is_exact target base target ≡ is_settled target
  whole-test full = settled_test target readable (ap spell (resolved-itself base target full))

  climb-normal_path : target.path.absolute ≡ false → is_climb (normal_segments target.path) ≡ true → normal (path false (all_but_last (normal_segments target.path))) ≡ normal target.path
  climb-normal_path flag climb =
      let list = normal_segments target.path in
      ap (path false) (climb-normal list climb ∙ (λ i. normal_segments (path (sym flag i) list)) ∙ ap (λ (p : PathValue). p.segments) (normal_again target.path)) ∙ (λ i. path (sym flag i) list)

  pub climb-test : is_some target.scheme ≡ true → (not target.path.absolute && is_climb (normal_segments target.path)) ≡ true → is_exact target base (climb_shortened target) ≡ is_settled target
  climb-test full h =
      let both = and_parts (not target.path.absolute) (is_climb (normal_segments target.path)) h in
      let flag : target.path.absolute ≡ false = grind (arith, both.0) in
      settled_test (climb_shortened target) (climb-passes set target base readable h)
      (ap spell (resolved-itself base (climb_shortened target) full ∙ (λ i. record target { path = guarded (context_of target) (climb-normal_path flag both.1 i) })))

  -- ---- with an authority

  resolved-authority : (r : ReferenceValue) → is_some r.authority ≡ true
      → resolved base (record r { scheme = None }) ≡ record r { scheme = base.scheme; path = guarded (record { has_scheme = is_some base.scheme; has_authority = is_some r.authority }) (normal r.path) }
  unfolding resolved
  resolved-authority r some = grind arith

  pub authority-test : (same_scheme_text target base && is_some target.authority) ≡ true → is_exact target base (record target { scheme = None }) ≡ is_settled target
  authority-test h =
      let both = and_parts (same_scheme_text target base) (is_some target.authority) h in
      let scheme = same_bytes (part_then (colon ∷ []) target.scheme) (part_then (colon ∷ []) base.scheme) both.0 in
      let there = same_some target.scheme base.scheme scheme in
      settled_test (record target { scheme = None }) (authority-passes set target base readable both.1)
      (ap spell (resolved-authority target both.1)
      ∙ (λ i. spell (record target { scheme = base.scheme; path = guarded (record { has_scheme = sym there i; has_authority = is_some target.authority }) (normal target.path) }))
      ∙ spell-same base.scheme target.scheme target.authority target.authority (with_normal_path target).path (with_normal_path target).path target.query target.query target.fragment (sym scheme) refl refl refl)

  -- ---- a path alone

  -- where scheme and authority have the same texts, a path is placed as in the target
  placed-text : same_authority_text target base ≡ true → (p : PathValue) → spell (placed base target.query target.fragment p) ≡ spell (record target { path = guarded (context_of target) p })
  placed-text h p =
      let both = and_parts (same_scheme_text target base) (bytes_eq (authority_text target) (authority_text base)) h in
      let scheme = same_bytes (part_then (colon ∷ []) target.scheme) (part_then (colon ∷ []) base.scheme) both.0 in
      let authority = same_bytes (authority_text target) (authority_text base) both.1 in
      let has_scheme = same_some target.scheme base.scheme scheme in
      let has_authority = same_some-authority target.authority base.authority authority in
      (λ i. spell (parts base.scheme base.authority (guarded (record { has_scheme = sym has_scheme i; has_authority = sym has_authority i }) p) target.query target.fragment))
      ∙ spell-same base.scheme target.scheme base.authority target.authority (guarded (context_of target) p) (guarded (context_of target) p) target.query target.query target.fragment (sym scheme) (sym authority) refl refl

  pub absolute-test : (same_authority_text target base && target.path.absolute) ≡ true → is_exact target base (with_only_path (guarded alone (normal target.path)) target) ≡ is_settled target
  absolute-test h =
      let both = and_parts (same_authority_text target base) target.path.absolute h in
      let root : target.path ≡ path true target.path.segments = (λ i. path (both.1 i) target.path.segments) in
      settled_test (with_only_path (guarded alone (normal target.path)) target) (guarded-passes set target base readable (normal target.path) (normal-passes set target base readable))
      (ap spell ((λ i. resolved base (only target.query target.fragment (guarded alone (normal (root i))))) ∙ root_resolved base target.query target.fragment target.path.segments ∙ (λ i. placed base target.query target.fragment (normal (sym root i))))
      ∙ placed-text both.0 (normal target.path))

  -- ---- a relative path

  abbrev flag : Bool
  flag = (base_directory base).absolute

  abbrev directory : List Text
  directory = (base_directory base).segments

  abbrev steps : List Text
  steps = shortened (steps_by_text (kept_segments (base_directory base)) (normal_segments target.path))

  steps-some : is_empty steps ≡ false
  steps-some = (alike-shortened (steps_by_text (kept_segments (base_directory base)) (normal_segments target.path)) (is_empty-snoc _ _)).some

  steps_placed : resolved base (with_only_path (relative_path target base) target) ≡ placed base target.query target.fragment (path flag (normal_segments (path flag (directory ++ steps))))
  steps_placed = relative_resolved base target.query target.fragment steps steps-some

  steps_there : is_reachable target base ≡ true → path flag (normal_segments (path flag (directory ++ steps))) ≡ normal target.path
  steps_there h =
      let both = and_parts (cond flag target.path.absolute (not target.path.absolute)) (nat_le (count_parents (kept_segments (base_directory base))) (count_parents (normal_segments target.path))) h in
      placed_steps flag directory target.path (same_flag flag target.path.absolute both.0) (leb-true _ _ both.1)

  relative-placed : same_authority_text target base ≡ true → is_reachable target base ≡ true → is_exact target base (with_only_path (relative_path target base) target) ≡ is_settled target
  relative-placed same h = settled_test (with_only_path (relative_path target base) target) (relative-passes set target base readable)
      (ap spell (steps_placed ∙ ap (placed base target.query target.fragment) (steps_there h)) ∙ placed-text same (normal target.path))

  -- what is reached from the directory has its flag, and at least its leading `..`
  reachable_from : is_exact target base (with_only_path (relative_path target base) target) ≡ true → is_reachable target base ≡ true
  reachable_from h =
      let r = with_only_path (relative_path target base) target in
      let p = path flag (directory ++ steps) in
      let exact = exact_value set target base r are (relative-passes set target base readable) (same_bytes (spell (resolved base r)) (spell target) h) in
      let is : target.path ≡ guarded (context_of base) (normal p) = ap (λ (s : ReferenceValue). s.path) (sym exact ∙ steps_placed) in
      let follows : follows_authority (context_of base) p ≡ true = ap (follows_authority (context_of base)) (sym (merged-is base steps)) ∙ follows-merged base steps (readable_parts set base are.readable_base).follows in
      let same : target.path.absolute ≡ flag = ap (λ (q : PathValue). q.absolute) is ∙ flag_kept (context_of base) p follows in
      let list : normal_segments target.path ≡ normal_segments p = ap normal_segments is ∙ ap (λ (q : PathValue). q.segments) (normal-normalized (context_of base) p follows) in
      let kept = parents-kept flag directory in
      let high = reached_high flag directory steps steps-some in
      let size = ap count_parents list in
      and_from _ _ (flag_from flag target.path.absolute same) (le-leb (count_parents (kept_segments (base_directory base))) (count_parents (normal_segments target.path)) (omega arith))

  pub relative-test : same_authority_text target base ≡ true → is_exact target base (with_only_path (relative_path target base) target) ≡ (is_settled target && is_reachable target base)
  relative-test same = same_test (is_exact target base (with_only_path (relative_path target base) target)) (is_settled target && is_reachable target base)
      (λ h. let reachable = reachable_from h in and_from _ _ (sym (relative-placed same reachable) ∙ h) reachable)
      (λ h. let both = and_parts (is_settled target) (is_reachable target base) h in relative-placed same both.1 ∙ both.0)

  -- ---- the base's own path

  own_path : guarded (context_of base) base.path ≡ base.path
  own_path = guarded-same (context_of base) base.path (readable-fits set base are.readable_base)

  -- the base's scheme, authority and path have the target's texts
  own-text : same_path_text target base ≡ true → (query fragment : Option Text) → then_part (question_mark ∷ []) target.query ≡ then_part (question_mark ∷ []) query
      → spell (parts base.scheme base.authority (guarded (context_of base) base.path) query fragment) ≡ spell (record target { fragment = fragment })
  own-text h query fragment same =
      let outer = and_parts (same_authority_text target base) (bytes_eq (spell_path target.path) (spell_path base.path)) h in
      let both = and_parts (same_scheme_text target base) (bytes_eq (authority_text target) (authority_text base)) outer.0 in
      let scheme = same_bytes (part_then (colon ∷ []) target.scheme) (part_then (colon ∷ []) base.scheme) both.0 in
      let authority = same_bytes (authority_text target) (authority_text base) both.1 in
      let own = same_bytes (spell_path target.path) (spell_path base.path) outer.1 in
      spell-same base.scheme target.scheme base.authority target.authority (guarded (context_of base) base.path) target.path query target.query fragment (sym scheme) (sym authority) (ap spell_path own_path ∙ sym own) (sym same)

  exact_from : (r : ReferenceValue) → spell (resolved base r) ≡ spell target → is_exact target base r ≡ true
  exact_from r e = (bytes_eq-Decides (spell (resolved base r)) (spell target)).1 e

  pub fragment-test : (same_path_text target base && same_query_text target base) ≡ true → is_exact target base (fragment_alone target) ≡ true
  unfolding resolved
  fragment-test h =
      let both = and_parts (same_path_text target base) (same_query_text target base) h in
      exact_from (fragment_alone target) (own-text both.0 base.query target.fragment (same_bytes (query_text target) (query_text base) both.1))

  resolved-tail : (query fragment : Option Text) → is_some query ≡ true → resolved base (only query fragment empty_path) ≡ parts base.scheme base.authority (guarded (context_of base) base.path) query fragment
  unfolding resolved
  resolved-tail query fragment some = grind arith

  pub tail-test : (same_path_text target base && is_some target.query) ≡ true → is_exact target base (with_only_path empty_path target) ≡ true
  tail-test h =
      let both = and_parts (same_path_text target base) (is_some target.query) h in
      exact_from (with_only_path empty_path target) (ap spell (resolved-tail target.query target.fragment both.1) ∙ own-text both.0 target.query target.fragment refl)
