use Rattle.std.proofs.Common.{drop}
use Rattle.std.specs.Str.{str_to_ascii_lowercase}
use Rattle.iref_canonical.proofs.SortPutLemmas.{IsPutting}
use Rattle.iref_canonical.proofs.sort_short.put_lower.Given as goal

abbrev pub invariant-loop-byte : goal.invariant-loop-byte
invariant-loop-byte l = IsPutting l.at (str_to_ascii_lowercase l.text) (str_to_ascii_lowercase (drop l.byte-index l.text)) l.fn.buffer l.buffer l.end
