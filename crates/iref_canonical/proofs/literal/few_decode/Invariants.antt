use Rattle.std.proofs.Common.{◌≡◌, ◌≤◌, ◌++◌, length, take}
use Rattle.percent_encoding.specs.{Percent.{percent_decode}, Iter.{decoded_bytes}}
use Rattle.iref_canonical.proofs.literal.few_decode.Given as goal

-- what the buffer holds and what is left are all
abbrev pub invariant-loop-byte : goal.invariant-loop-byte
invariant-loop-byte l = record {
  wide : length l.bytes ≡ 47;
  few : l.len ≤ 47;
  all : take l.len l.bytes ++ decoded_bytes l.byte-iterator ≡ percent_decode l.text;
}
