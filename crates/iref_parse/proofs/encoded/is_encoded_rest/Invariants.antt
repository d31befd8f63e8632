use Rattle.std.proofs.Common.{◌≡◌, true, length}
use Rattle.std.specs.Str.{IsUtf8}
use Rattle.iref_parse.specs.Encoded.{are_encoded, is_plain_char}
use Rattle.iref_parse.proofs.encoded.is_encoded_rest.Given as goal

abbrev pub invariant-loop-rest : goal.invariant-loop-rest
invariant-loop-rest g l = record {
  encoded : are_encoded (is_plain_char g.C.CharSet.tests) l.rest ≡ true → are_encoded (is_plain_char g.C.CharSet.tests) l.text ≡ true;
  utf8 : IsUtf8 l.text → IsUtf8 l.rest;
}

abbrev pub decreases-loop-rest : goal.decreases-loop-rest
decreases-loop-rest g l = length l.rest
