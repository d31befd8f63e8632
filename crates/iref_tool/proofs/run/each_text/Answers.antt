use Rattle.std.proofs.Common.{rules, arith, ◌≡◌, ◌++◌, ◌∷◌, [], subst, take}
use Rattle.std.proofs.lemmas.Grind.{common_steps}
use Rattle.iref_tool.specs.JobRuns.{DoesAll, DoesJob}
use Rattle.iref_tool.proofs.JobRunLemmas.{not_failed, one_more_file, worst_more}
use Rattle.iref_tool.proofs.run.each_text.Goals as goal

pub loop-file-preserved : goal.loop-file-preserved
loop-file-preserved g c =
    let read = c.loop-file.invariant in
    let status = c.in-Some.of_file in (
      read.0 ++ status ∷ [],
      one_more_file (λ old lines new. DoesJob g.J.Job.outcome g.J.Job.goes_on g.W.Write.contents old lines new) c.args.files.now c.loop-file.file-index _ (search rules)
          read.0 status c.args.texts.now c.loop-file.texts c.begin.new.self c.read_file.new.to read.1 c.begin.ensures c.in-Some.ensures.lines,
      worst_more read.0 status c.loop-file.status c.worse-status.result read.2 c.worse-status.ensures,
    )

pub returns-in-None : goal.returns-in-None
returns-in-None g c = record {
  status = c.loop-file.status;
  does = λ none. not_failed _ none c.in-None.ensures.failed;
  worst = omega (arith, c.worse.ensures);
}

pub returns : goal.returns
returns g c =
    let all : take c.loop-file.file-index c.args.files.now ≡ c.args.files.now = grind (arith, common_steps) in
    record {
      status = c.loop-file.status;
      does = λ none. subst (λ files. DoesAll g.J.Job.outcome g.J.Job.goes_on g.W.Write.contents files c.loop-file.status c.args.texts.now c.loop-file.texts) all c.loop-file.invariant;
      worst = c.worse-2.ensures;
    }
