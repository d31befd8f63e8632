-- The numbers of ports, as the types of integers hold them.
use Rattle.std.specs.Prelude.{ℕ, nat_lt, ℤ, pos, Option, None, Some, Result, Ok, Err, if◌then◌else◌}
use Rattle.std.specs.Result.{result_map_both}
use Rattle.iref_grammar.specs.Rules.{Text}
use Rattle.iref_grammar.specs.PortNumbers.{port_value}
use Rattle.iref_fault.specs.declared.port.PortError.{PortError}
use Rattle.iref_fault.specs.declared.port.PortError.TheVariants.{Empty, OutOfRange}

-- the number, if there is one and it is below the limit of its type
abbrev pub fitting : ℕ → Option ℕ → Result ℕ PortError
fitting limit None = Err Empty
fitting limit (Some n) = if nat_lt n limit then Ok n else Err OutOfRange

-- what a port's digits are as a number below the limit
abbrev pub port_number : ℕ → Text → Result ℕ PortError
port_number limit digits = fitting limit (port_value digits)

-- the same of a type with a sign
abbrev pub signed_port_number : ℕ → Text → Result ℤ PortError
signed_port_number limit digits = result_map_both pos (λ error. error) (port_number limit digits)
