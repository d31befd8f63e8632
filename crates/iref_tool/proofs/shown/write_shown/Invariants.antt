use Rattle.std.proofs.Common.{encode_utf8_all, map}
use Rattle.std.specs.Fmt.{HasWritten, IsPlainFormatter}
use Rattle.iref_tool.specs.Shown.{shown_char}
use Rattle.iref_tool.proofs.shown.write_shown.Given as goal

-- the characters before the next were written as they are shown
abbrev pub invariant-loop-c : goal.invariant-loop-c
invariant-loop-c g l =
    IsPlainFormatter l.fn.f → HasWritten g.W.Write.write_str_gives l.fn.f (encode_utf8_all (map shown_char l.yielded)) l.f
