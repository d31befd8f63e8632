-- What texts are compared by: bytes. Equal keys are equal texts, and the order is that of bytes.
use Rattle.std.specs.{Prelude.{Bool, ◌==◌}, Ordering.{nat_cmp}, Cmp.Lexicographic.{pointwise, slice_cmp}}
use Rattle.std.specs.declared.cmp.Ordering.{Ordering}
use Rattle.iref_grammar.specs.Rules.{Text}

-- whether they are the same bytes
abbrev pub is_same_text : Text → Text → Bool
is_same_text = pointwise ◌==◌

-- their order, byte by byte
abbrev pub text_order : Text → Text → Ordering
text_order = slice_cmp nat_cmp
