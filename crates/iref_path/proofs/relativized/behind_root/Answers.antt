use Rattle.std.proofs.Common.{refl}
use Rattle.iref_path.proofs.SlashLemmas.{read-absolute, read-relative}
use Rattle.iref_path.proofs.relativized.behind_root.Goals as goal

pub returns-in-Some-clause-path : goal.returns-in-Some-clause-path
returns-in-Some-clause-path c = read-absolute _ c.in-Some.rest.now _ c.in-Some.ensures refl

pub returns-in-None-clause-path : goal.returns-in-None-clause-path
returns-in-None-clause-path c = read-relative _ _ c.in-None.ensures refl
