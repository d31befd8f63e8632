-- Each step of a path keeps it readable in its context.
use Rattle.std.proofs.{Common.{arith, ◌≡◌, Bool, true, List, refl}, lemmas.Grind.{common_steps}}
use Rattle.std.proofs.lemmas.Bool.{and_from, and_parts}
use Rattle.std.specs.List.{list_all}
use Rattle.iref_grammar.specs.{declared.context.PathContext.{PathContext}, Characters.{CharTests}, Rules.{Text}}
use Rattle.iref_grammar.specs.{Tests.{is_segment}, PathValue.{PathValue}, Contexts.{fits, is_readable_path}}
use Rattle.iref_grammar.specs.Guard.{guarded}
use Rattle.iref_grammar.specs.PathSteps.{lazy_pushed, popped, pushed, appended, lazy_appended, replaced, joined, normalized, cleared}
use Rattle.iref_grammar.proofs.GuardLemmas.{guarded-fits}
use Rattle.iref_grammar.proofs.FitsLemmas.{lazy_pushed-fits, popped-fits, pushed-fits, appended-fits, lazy_appended-fits, joined-fits, normalized-fits, cleared-fits}
use Rattle.iref_grammar.proofs.NormalGrammarLemmas.{takes_dots}
use Rattle.iref_grammar.proofs.StepSegmentLemmas.{guarded-in, lazy_pushed-in, popped-in, pushed-in, appended-in, lazy_appended-in, joined-in, normalized-in}

module _ (set : CharTests) (context : PathContext) where
  abbrev pub is_readable : PathValue → Bool
  is_readable p = is_readable_path set context p

  abbrev are_segments : List Text → Bool
  are_segments segments = list_all (is_segment set) segments

  -- a path with segments in their rule that fits is readable
  readable_from : (p : PathValue) → are_segments p.segments ≡ true → fits context p ≡ true → is_readable p ≡ true
  readable_from p segments fit = and_from (are_segments p.segments) (fits context p) segments fit

  -- what keeps and_from keeps the path readable
  kept : (p new : PathValue) → (are_segments p.segments ≡ true → are_segments new.segments ≡ true) → (fits context p ≡ true → fits context new ≡ true) → is_readable p ≡ true → is_readable new ≡ true
  kept p new segments fit h = grind (arith, and_parts)

  pub guarded-readable : (p : PathValue) → are_segments p.segments ≡ true → is_readable (guarded context p) ≡ true
  guarded-readable p h = readable_from (guarded context p) (guarded-in (is_segment set) (takes_dots set) context p h) (guarded-fits context p)

  pub lazy_pushed-readable : (s : Text) (p : PathValue) → is_segment set s ≡ true → is_readable p ≡ true → is_readable (lazy_pushed context s p) ≡ true
  lazy_pushed-readable s p k = kept p (lazy_pushed context s p) (lazy_pushed-in (is_segment set) (takes_dots set) context s p k) (lazy_pushed-fits context s p)

  pub pushed-readable : (s : Text) (p : PathValue) → is_segment set s ≡ true → is_readable p ≡ true → is_readable (pushed context s p) ≡ true
  pushed-readable s p k = kept p (pushed context s p) (pushed-in (is_segment set) (takes_dots set) context s p k) (pushed-fits context s p)

  pub popped-readable : (p : PathValue) → is_readable p ≡ true → is_readable (popped context p) ≡ true
  popped-readable p = kept p (popped context p) (popped-in (is_segment set) (takes_dots set) context p) (popped-fits context p)

  pub appended-readable : (items : List Text) (p : PathValue) → are_segments items ≡ true → is_readable p ≡ true → is_readable (appended context items p) ≡ true
  appended-readable items p k = kept p (appended context items p) (appended-in (is_segment set) (takes_dots set) context items p k) (appended-fits context items p)

  pub lazy_appended-readable : (items : List Text) (p : PathValue) → are_segments items ≡ true → is_readable p ≡ true → is_readable (lazy_appended context items p) ≡ true
  lazy_appended-readable items p k =
      kept p (lazy_appended context items p) (lazy_appended-in (is_segment set) (takes_dots set) context items p k) (lazy_appended-fits context items p)

  pub joined-readable : (new p : PathValue) → are_segments new.segments ≡ true → is_readable p ≡ true → is_readable (joined context new p) ≡ true
  joined-readable new p k = kept p (joined context new p) (joined-in (is_segment set) (takes_dots set) context new p k) (joined-fits context new p)

  pub replaced-readable : (new p : PathValue) → are_segments new.segments ≡ true → is_readable (replaced context new p) ≡ true
  replaced-readable new p = guarded-readable new

  pub normalized-readable : (p : PathValue) → are_segments p.segments ≡ true → is_readable (normalized context p) ≡ true
  normalized-readable p k = grind (arith, common_steps, readable_from, normalized-in, takes_dots, normalized-fits)

  pub cleared-readable : (p : PathValue) → is_readable (cleared p) ≡ true
  cleared-readable p = readable_from (cleared p) refl (cleared-fits context p)
