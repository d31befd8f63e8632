use Rattle.std.proofs.Common.{true, false, refl, length-append, arith}
use Rattle.iref_grammar.specs.declared.context.PathContext.{PathContext}
use Rattle.iref_reference_text.proofs.after_authority.path_between.Goals as goal

some_authority : PathContext
some_authority = record { has_scheme = false; has_authority = true }

pub overflow_sub-len : goal.overflow_sub-len
unfolding some_authority
overflow_sub-len c =
    let put = c.in_ok-append_normal_after.ensures some_authority refl in
    grind (arith, length-append)
