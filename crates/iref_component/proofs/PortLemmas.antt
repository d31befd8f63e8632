-- Ports as numbers of a type.
use Rattle.std.proofs.{Common.{◌≡◌, ℕ, ◌<◌, ◌^◌, length, true, arith, Result, Ok, MatchResult, IsErrAnd}, lemmas.Str.Parse.{parse_digits}}
use Rattle.std.proofs.lemmas.Bool.Decides.{nat_tests}
use Rattle.std.specs.Str.Parse.{ParsesUnsigned}
use Rattle.iref_grammar.specs.{Rules.{Text}, Tests.{is_port}}
use Rattle.iref_component.specs.Ports.{port_number}
use Rattle.iref_fault.specs.{declared.port.PortError.{PortError}, declared.port.PortError.TheVariants.{OutOfRange}}
use Rattle.iref_grammar.proofs.PortNumberLemmas.{digits_of_ports, value_of_digits}

-- the number that is read of digits
pub port_number-parsed : {E : Type 0} (text : Text) (r : Result ℕ E) (s : Result ℕ PortError) → ParsesUnsigned 128 10 text r → is_port text ≡ true → 0 < length text → MatchResult r (λ n. s ≡ Ok n) (λ e. IsErrAnd s (λ error. error ≡ OutOfRange)) → s ≡ port_number (2 ^ 128) text
port_number-parsed text r s h port some e = grind (arith, nat_tests, value_of_digits text some, parse_digits digits_of_ports 128 text r h port)
