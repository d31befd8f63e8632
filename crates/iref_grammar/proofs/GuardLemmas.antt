-- A guarded path is read as it was meant, wherever it stands.
use Rattle.std.proofs.Common.{arith, ◌≡◌, true}
use Rattle.iref_grammar.specs.declared.context.PathContext.{PathContext}
use Rattle.iref_grammar.specs.{PathValue.{PathValue, shows_its_list}, Contexts.{fits}}
use Rattle.iref_grammar.specs.Guard.{guarded, guarded_list}

pub guarded-fits : (context : PathContext) (p : PathValue) → fits context (guarded context p) ≡ true
unfolding guarded
guarded-fits context p = grind arith

pub guarded_list-shows : (p : PathValue) → shows_its_list (guarded_list p) ≡ true
unfolding guarded_list
guarded_list-shows p = grind arith
