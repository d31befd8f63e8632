-- The steps of a path keep what the text of a path has.
use Rattle.std.proofs.Common.{arith, ◌≡◌, Bool, true, ◌||◌, [], ◌∷◌, refl, sym, subst, ◌∙◌, ap}
use Rattle.std.proofs.{lemmas.Grind.{common_steps}, lemmas.Bool.{and_from, and_parts}}
use Rattle.std.specs.List.{list_all}
use Rattle.iref_grammar.specs.{declared.context.PathContext.{PathContext}, Characters.{CharTests, AreAboveAscii}}
use Rattle.iref_grammar.specs.{Rules.{Text}, Grammar.{slash}, Tests.{is_segment, is_path}}
use Rattle.iref_grammar.specs.PathValue.{PathValue, read_path, spell_path, shows_its_list}
use Rattle.iref_grammar.specs.Contexts.{fits, follows_authority, is_readable_path}
use Rattle.iref_grammar.proofs.ComponentLackLemmas.{slash_cuts, segments_lack}
use Rattle.iref_grammar.proofs.{PathLemmas.{read-spelled, read_path-reads}, PathTestLemmas.{is_path-segments}}
use Rattle.iref_grammar.specs.{Guard.{guarded}, PathSteps.{lazy_pushed, popped, closed_path, followed, pushed, cleared}}
use Rattle.iref_grammar.proofs.GuardLemmas.{guarded-fits, guarded_list-shows}
use Rattle.iref_grammar.proofs.FitsLemmas.{is_empty-snoc, lazy_pushed-fits, popped-fits, closed_path-fits, followed-fits, pushed-fits, cleared-fits}
use Rattle.iref_grammar.proofs.{PathGrammarLemmas.{segments_of_path}, NormalGrammarLemmas.{takes_dots}}
use Rattle.iref_grammar.proofs.StepSegmentLemmas.{guarded-in, lazy_pushed-in, popped-in, closed_path-in, followed-in, pushed-in}
use Rattle.iref_splice.specs.{Changes.{IsWithin, changed}, declared.change.Change.{Change}}
use Rattle.iref_path.specs.PathParts.{is_path_after, StepsBy, StepsTo}

-- what a step keeps
pub record IsStep (set : CharTests) (context : PathContext) (p value : PathValue) : Type 0 where
  pub segments : list_all (is_segment set) p.segments ≡ true → list_all (is_segment set) value.segments ≡ true
  pub shown : shows_its_list p ≡ true → shows_its_list value ≡ true
  pub fit : fits context p ≡ true → fits context value ≡ true

pub fit-shows : (context : PathContext) (p : PathValue) → fits context p ≡ true → shows_its_list p ≡ true
fit-shows context p h = grind arith

-- after an authority a list that shows fits as soon as it follows
follows-step : (has_scheme has_authority : Bool) (p value : PathValue) → let context : PathContext = record { has_scheme = has_scheme; has_authority = has_authority } in
    (fits context p ≡ true → fits context value ≡ true) → shows_its_list p ≡ true → follows_authority context p ≡ true → follows_authority context value ≡ true
follows-step has_scheme has_authority p value fit shown h = grind arith

module _ (set : CharTests) (above : AreAboveAscii set) (context : PathContext) where
  abbrev are_segments : PathValue → Bool
  are_segments p = list_all (is_segment set) p.segments

  -- the text that spells a step
  pub steps_to : (old new : Text) (value : PathValue) → IsStep set context (read_path old) value → is_path_after set context old ≡ true → new ≡ spell_path value → StepsTo set context old new value
  steps_to old new value step h e =
      let p = read_path old in
      let parts = and_parts (is_path set old) (follows_authority context p) h in
      let segments = step.segments (segments_of_path set above old p refl parts.0) in
      let shown = (read_path-reads old).shown in
      let read : read_path new ≡ value =
      ap read_path e ∙ read-spelled value.absolute value.segments (segments_lack set above slash slash_cuts refl value.segments segments) (step.shown shown) in
      record {
        spelled = e;
        read = read;
        path = and_from _ _ (is_path-segments set above new ∙ ap are_segments read ∙ segments)
            (ap (follows_authority context) read ∙ follows-step context.has_scheme context.has_authority p value step.fit shown parts.1);
        reads = λ k. ap (is_readable_path set context) read ∙ and_from _ _ segments (step.fit (and_parts (are_segments p) (fits context p) k).1);
      }

  -- the same with where it cuts the text
  pub steps_by : (change : PathValue → PathValue) (path : Text) (result : Change) → IsStep set context (read_path path) (change (read_path path)) → is_path_after set context path ≡ true → IsWithin path result.within
      → changed path result ≡ spell_path (change (read_path path)) → StepsBy change set context path result
  steps_by change path result step h within e = record { within = within; step = steps_to path (changed path result) (change (read_path path)) step h e }

-- a step that makes the same of the path
pub steps_as : (set : CharTests) (context : PathContext) (f g : PathValue → PathValue) (path : Text) (result : Change) → g (read_path path) ≡ f (read_path path) → StepsBy f set context path result → StepsBy g set context path result
steps_as set context f g path result e h = record { within = h.within; step = subst (StepsTo set context path (changed path result)) (sym e) h.step }

-- ---- each step

lazy_pushed-shown : (context : PathContext) (s : Text) (p : PathValue) → shows_its_list p ≡ true → shows_its_list (lazy_pushed context s p) ≡ true
unfolding lazy_pushed
lazy_pushed-shown context s p h =
    let first : PathValue = record { absolute = p.absolute || context.has_authority; segments = s ∷ [] } in
    let shown = fit-shows context (guarded context first) (guarded-fits context first) in
    grind (arith, common_steps, is_empty-snoc)

popped-shown : (context : PathContext) (p : PathValue) → shows_its_list p ≡ true → shows_its_list (popped context p) ≡ true
unfolding popped
popped-shown context p h = grind (arith, lazy_pushed-shown, guarded_list-shows)

module _ (set : CharTests) (context : PathContext) (p : PathValue) where
  pub lazy_pushed-step : (s : Text) → is_segment set s ≡ true → IsStep set context p (lazy_pushed context s p)
  lazy_pushed-step s k =
      record { segments = lazy_pushed-in (is_segment set) (takes_dots set) context s p k; shown = lazy_pushed-shown context s p; fit = lazy_pushed-fits context s p }

  pub popped-step : IsStep set context p (popped context p)
  popped-step = record { segments = popped-in (is_segment set) (takes_dots set) context p; shown = popped-shown context p; fit = popped-fits context p }

  pub closed-step : IsStep set context p (closed_path context p)
  closed-step = record { segments = closed_path-in (is_segment set) (takes_dots set) context p; shown = λ h. grind (arith, lazy_pushed-shown); fit = closed_path-fits context p }

  pub followed-step : (s : Text) → is_segment set s ≡ true → IsStep set context p (followed context p s)
  followed-step s k =
      record { segments = followed-in (is_segment set) (takes_dots set) context p s k; shown = λ h. grind (arith, popped-shown, lazy_pushed-shown); fit = followed-fits context p s }

  pub pushed-step : (s : Text) → is_segment set s ≡ true → IsStep set context p (pushed context s p)
  unfolding pushed
  pushed-step s k =
      record { segments = pushed-in (is_segment set) (takes_dots set) context s p k; shown = λ h. grind (arith, popped-shown, lazy_pushed-shown); fit = pushed-fits context s p }

  pub cleared-step : IsStep set context p (cleared p)
  cleared-step = record { segments = λ h. refl; shown = λ h. grind arith; fit = λ h. cleared-fits context p }

  pub replaced-step : (new : PathValue) → list_all (is_segment set) new.segments ≡ true → IsStep set context p (guarded context new)
  replaced-step new k =
      record { segments = λ h. guarded-in (is_segment set) (takes_dots set) context new k; shown = λ h. fit-shows context (guarded context new) (guarded-fits context new); fit = λ h. guarded-fits context new }
