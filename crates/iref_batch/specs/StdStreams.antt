-- What a std reader or writer under `FromStd` shows.
use Rattle.std.specs.{Prelude.{Bool, Option, is_some}, declared.io.Error.{Error}}
use Rattle.iref_batch.specs.declared.streams.FromStd.{FromStd}

-- the reader or writer itself
abbrev pub inner_of : {X : Type 0} → FromStd X → X
inner_of s = s.inner

-- the error that it keeps, if a call of it has failed
abbrev pub failure_of : {X : Type 0} → FromStd X → Option Error
failure_of s = s.failure

abbrev pub has_failed : {X : Type 0} → FromStd X → Bool
has_failed s = is_some (failure_of s)
