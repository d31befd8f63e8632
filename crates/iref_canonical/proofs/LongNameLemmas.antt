-- Names that do not decode to dots: long ones, and those that begin with neither a dot nor an escape.
use Rattle.std.proofs.Common.{◌≡◌, ◌<◌, Bool, true, false, [], ◌∷◌, length, refl, ap, arith, codes}
use Rattle.std.proofs.{lemmas.Bool.Decides.{nat_tests}, lemmas.Slice.Eq.{bytes_eq-Decides}}
use Rattle.std.specs.Str.{bytes_eq}
use Rattle.percent_encoding.specs.Percent.{percent_decode}
use Rattle.percent_encoding.proofs.PercentLemmas.{length-percent_decode, percent_decode-nil, percent_decode_not_percent}
use Rattle.iref_grammar.specs.Rules.{Text}
use Rattle.iref_grammar.specs.NormalList.{is_dot, is_dot_dot}
use Rattle.iref_canonical.specs.SpelledItems.{begins_as_dots}

longer : (s t : Text) → length t < length s → bytes_eq s t ≡ false
longer s t h = by (bytes_eq s t) refl
  where
    by : (same : Bool) → bytes_eq s t ≡ same → same ≡ false
    by false e = refl
    by true e = let size = ap length ((bytes_eq-Decides s t).0 e) in absurd (omega (arith, h, size))

-- an escape is three bytes, so more than six decode to more than two
pub long_name : (text : Text) → 6 < length text → (is_dot (percent_decode text) ≡ false) × (is_dot_dot (percent_decode text) ≡ false)
long_name text h =
    let size = (length-percent_decode text).1 in
    (longer (percent_decode text) (codes ".") (omega (arith, h, size)), longer (percent_decode text) (codes "..") (omega (arith, h, size)))

-- the first byte is decoded to itself
pub other_name : (text : Text) → begins_as_dots text ≡ false → (is_dot (percent_decode text) ≡ false) × (is_dot_dot (percent_decode text) ≡ false)
other_name [] h = (ap is_dot percent_decode-nil, ap is_dot_dot percent_decode-nil)
other_name (c ∷ cs) h =
    (grind (arith, nat_tests, bytes_eq-Decides, percent_decode_not_percent c cs), grind (arith, nat_tests, bytes_eq-Decides, percent_decode_not_percent c cs))

pub ruleset no_dots = (long_name, other_name)
