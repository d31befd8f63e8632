-- The orders by which items are compared.
use Rattle.std.proofs.{Common.{◌≡◌, Bool, true, false, cond, refl, bytes_eq, Ordering, Equal, Less}, lemmas.Map.Text.{is_eq-slice_cmp}}
use Rattle.std.specs.{Ordering.{is_eq}, Prelude.{if◌then◌else◌}}
use Rattle.percent_encoding.specs.Percent.{percent_decode}
use Rattle.iref_grammar.specs.{Keys.{text_order}, Rules.{Text}}
use Rattle.iref_grammar.specs.PathSuffix.{same_decoded}

-- by the bytes that they decode to
abbrev pub decoded_order : Text → Text → Ordering
decoded_order s t = text_order (percent_decode s) (percent_decode t)

pub decoded-decides : (s t : Text) → is_eq (decoded_order s t) ≡ same_decoded s t
decoded-decides s t = is_eq-slice_cmp (percent_decode s) (percent_decode t)

-- the same texts are equal
abbrev pub equal_or_less : Text → Text → Ordering
equal_or_less s t = if bytes_eq s t then Equal else Less

by_test : (b : Bool) → is_eq (cond b Equal Less) ≡ b
by_test true = refl
by_test false = refl

pub text-decides : (s t : Text) → is_eq (equal_or_less s t) ≡ bytes_eq s t
text-decides s t = by_test (bytes_eq s t)
