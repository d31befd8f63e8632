use Rattle.iref_tool.proofs.run.finish.Goals as goal

pub returns : goal.returns
returns g c = (c.each_text-status.result, c.each_text-status.ensures, c.ended.ensures)
