-- A relative reference to a readable target is readable.
use Rattle.std.proofs.Common.{arith, ◌≡◌, Bool, true, false, cond, ◌&&◌, List, [], refl}
use Rattle.std.proofs.{lemmas.Grind.{common_steps}, lemmas.List.Folds.{list_all-append}}
use Rattle.std.specs.List.{list_all}
use Rattle.iref_grammar.specs.{Characters.{CharTests, AreAboveAscii}, Rules.{Text}, Tests.{is_segment}}
use Rattle.iref_grammar.specs.{PathValue.{PathValue}, Contexts.{alone, follows_authority, reads_as_path}}
use Rattle.iref_grammar.specs.Reference.{ReferenceValue, IsReadable, is_readable}
use Rattle.iref_grammar.specs.NormalList.{normal_segments, normal}
use Rattle.iref_grammar.specs.Relative.{have_same_authority, schemes_agree, is_same_place, steps_between, leading_path, with_only_path, relative_to}
use Rattle.iref_grammar.proofs.{ReadablePartsLemmas.{readable_parts}, ReferenceRuleLemmas.{Decides-is_readable}}
use Rattle.iref_grammar.proofs.{GuardLemmas.{guarded-fits}, JoinedLemmas.{climbs}}
use Rattle.iref_grammar.proofs.StepSegmentLemmas.{TakesDots, normal-in, guarded-in, in-parents}
use Rattle.iref_grammar.proofs.LeadingLemmas.{names_down-all, climb_between, steps-are}
use Rattle.iref_grammar.proofs.RelativeLemmas.{relative_to-leads, relative_to-leads_full}
use Rattle.iref_grammar.proofs.RelativeLemmas.{relative_to-only_path, relative_to-no_root, relative_to-least}
use Rattle.iref_grammar.proofs.ResolvedLemmas.{resolved-readable}
use Rattle.iref_grammar.proofs.{RelativeLemmas.{at_no_root, path_down, stands, resolved-full}, NormalGrammarLemmas.{takes_dots}}

-- ---- what each segment passes

module _ (test : Text → Bool) (dots : TakesDots test) where
  all_steps : (directory list : List Text) → list_all test list ≡ true → list_all test (steps_between directory list) ≡ true
  all_steps directory list h =
      grind (arith, common_steps, steps-are, list_all-append, climbs, climb_between, in-parents test dots, names_down-all)

  pub all_leading : (target base : ReferenceValue) → list_all test target.path.segments ≡ true → list_all test (leading_path target base).segments ≡ true
  all_leading target base h = grind (arith, common_steps, normal-in, at_no_root, guarded-in, all_steps)

-- ---- the answer

pub readable-stands : (set : CharTests) (r : ReferenceValue) → is_readable set r ≡ true → stands r
readable-stands set r readable = (readable_parts set r readable).follows

pub only_path-readable : (set : CharTests) (target : ReferenceValue) (p : PathValue) → is_readable set target ≡ true
    → list_all (is_segment set) p.segments ≡ true → (follows_authority alone p && reads_as_path alone p) ≡ true
    → is_readable set (with_only_path p target) ≡ true
unfolding is_readable
only_path-readable set target p readable segments fits = grind (arith, readable_parts)

leading_path-fits : (target base : ReferenceValue) → (follows_authority alone (leading_path target base) && reads_as_path alone (leading_path target base)) ≡ true
leading_path-fits target base = guarded-fits alone (cond base.path.absolute (at_no_root (path_down base.path (normal_segments target.path))) (normal target.path))

-- the answer is readable where the target is
pub relative_to-readable : (set : CharTests) (target base : ReferenceValue) → is_readable set target ≡ true → is_readable set (relative_to target base) ≡ true
unfolding relative_to Rattle.iref_grammar.specs.Key.key
relative_to-readable set target base readable = by (schemes_agree target base && have_same_authority target base) (is_same_place target base) target.path.absolute
  where
    by : (agree range root : Bool) → is_readable set (cond agree (cond range (with_only_path (at_no_root []) target) (cond root (with_only_path (leading_path target base) target) target)) target) ≡ true
    by false range root = readable
    by true true root = only_path-readable set target (at_no_root []) readable refl refl
    by true false true = only_path-readable set target (leading_path target base) readable (all_leading (is_segment set) (takes_dots set) target base (readable_parts set target readable).segments) (leading_path-fits target base)
    by true false false = readable

-- the same by the rules of the grammar
pub relative_to-IsReadable : (set : CharTests) → AreAboveAscii set → (target base : ReferenceValue) → IsReadable set target → IsReadable set (relative_to target base)
relative_to-IsReadable set above target base readable =
    (Decides-is_readable set above (relative_to target base)).0 (relative_to-readable set target base ((Decides-is_readable set above target).1 readable))

-- the laws of relative references
pub ruleset answers = (relative_to-readable, relative_to-only_path, relative_to-no_root, relative_to-least)

pub ruleset laws = (answers, readable-stands, relative_to-leads, relative_to-leads_full, resolved-full, resolved-readable)
