-- Laws of the lines that a job was given.
use Rattle.std.specs.Prelude.{◌≡◌, ℕ, Bool, List, [], ◌∷◌, ◌++◌, Option, Some, refl}
use Rattle.std.specs.{Borrow.{Bor}, List.{concat}}
use Rattle.std.proofs.{Common.{sym, ap, ◌∙◌, subst, append_assoc, arith}, lemmas.{Grind.{common_steps}, List.Folds.{concat-append}}}
use Rattle.iref.specs.Rules.{Text}
use Rattle.iref_batch.specs.{Gathering.{Gains}, declared.status.Status.{Status}}
use Rattle.iref_tool.specs.{JobRuns.{DoesJob, DoesLines, next_number, number_after}, Jobs.{Outcome}, Notes.{StandsForWrong}}
use Rattle.iref_tool.specs.declared.{jobs.LineFault.{LineFault}, texts.Texts.{Texts}}

number_after-both : (number : ℕ) (lines others : List (Option Text)) → number_after number (lines ++ others) ≡ number_after (number_after number lines) others
number_after-both number [] others = refl
number_after-both number (line ∷ lines) others = number_after-both (next_number number) lines others

module _ {J : Type 0} (outcome : J → Text → Outcome) (goes_on : J → Option Text → J → Type 0) where
  DoesLines-both : (for_wrong : ℕ → Text → LineFault → Text → Type 0) (number : ℕ) (old mid new : J) (before between after : Status) (lines others : List (Option Text)) (texts more : List Text) → DoesLines outcome goes_on for_wrong number old before lines texts mid between → DoesLines outcome goes_on for_wrong (number_after number lines) mid between others more new after → DoesLines outcome goes_on for_wrong number old before (lines ++ others) (texts ++ more) new after
  DoesLines-both for_wrong number old mid new before between after [] others [] more d e =
      subst (λ j. DoesLines outcome goes_on for_wrong number j before others more new after) d.0
      (subst (λ s. DoesLines outcome goes_on for_wrong number mid s others more new after) d.1 e)
  DoesLines-both for_wrong number old mid new before between after [] others (text ∷ texts) more d e = absurd d
  DoesLines-both for_wrong number old mid new before between after (line ∷ lines) others [] more d e = absurd d
  DoesLines-both for_wrong number old mid new before between after (line ∷ lines) others (text ∷ texts) more d e =
      (d.0, d.1, d.2, DoesLines-both for_wrong (next_number number) d.0 mid new d.1 between after lines others texts more d.3 e)

  -- the same file, number and place
  DoesLines-moved : (old new : J) (before after : Status) (lines : List (Option Text)) (texts : List Text) (file same : Bor Text) (number other : ℕ) (reports also : Bool) → same ≡ file → other ≡ number → also ≡ reports → DoesLines outcome goes_on (StandsForWrong also same.now) other old before lines texts new after → DoesLines outcome goes_on (StandsForWrong reports file.now) number old before lines texts new after
  DoesLines-moved old new before after lines texts file same number other reports also e f g d = rw (← e, ← f, ← g) d

pub Gains-both : (text more : Text) (a b c : Option Text) (gathered mid gathered_then : Text) → Gains text a b gathered mid → Gains more b c mid gathered_then → Gains (text ++ more) a c gathered gathered_then
Gains-both text more a b c gathered mid gathered_then f g xs e =
    let p = f xs e in
    let q = g (xs ++ p.0) p.1 in
    (p.0 ++ q.0, q.1 ∙ ap (λ (t : Text). Some t) (append_assoc xs p.0 q.0), grind (arith, common_steps))

module _ {J W E : Type 0} (outcome : J → Text → Outcome) (goes_on : J → Option Text → J → Type 0) (contents : W → Option Text) where
  -- nothing was done
  pub DoesJob-nothing : (s : Texts J W E) → DoesJob outcome goes_on contents s [] s
  DoesJob-nothing s = record {
    texts = [];
    does = (refl, refl);
    gains = λ xs e. ([], grind (arith, common_steps), grind (arith, common_steps));
    file = refl;
    numbers = refl;
    reports = refl;
  }

  -- the job was done with lines, and then with others
  pub DoesJob-both : (old mid new : Texts J W E) (lines others : List (Option Text)) → DoesJob outcome goes_on contents old lines mid → DoesJob outcome goes_on contents mid others new → DoesJob outcome goes_on contents old (lines ++ others) new
  DoesJob-both old mid new lines others f g =
      let for_wrong = StandsForWrong old.reports old.file.now in
      record {
        texts = f.texts ++ g.texts;
        does = DoesLines-both outcome goes_on for_wrong old.number old.job mid.job new.job old.status mid.status new.status lines others f.texts g.texts f.does
            (DoesLines-moved outcome goes_on mid.job new.job mid.status new.status others g.texts old.file mid.file (number_after old.number lines) mid.number old.reports mid.reports f.file f.numbers f.reports g.does);
        gains = rw (concat-append f.texts g.texts)
            (Gains-both (concat f.texts) (concat g.texts) _ _ _ old.answers.items mid.answers.items new.answers.items f.gains g.gains);
        file = g.file ∙ f.file;
        numbers = g.numbers ∙ ap (λ n. number_after n others) f.numbers ∙ sym (number_after-both old.number lines others);
        reports = g.reports ∙ f.reports;
      }
