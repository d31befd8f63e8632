-- What the laws of the shortest reference speak of.
use Rattle.std.specs.Prelude.{◌≡◌, ◌≤◌, length, true}
use Rattle.iref_grammar.specs.{Characters.{CharTests, AreAboveAscii}, Reference.{ReferenceValue, spell, is_readable}}
use Rattle.iref_grammar.specs.Resolution.{resolved}

-- target and base are in their grammar
pub record AreReadable (set : CharTests) (target base : ReferenceValue) : Type 0 where
  pub characters : AreAboveAscii set
  pub readable_target : is_readable set target ≡ true
  pub readable_base : is_readable set base ≡ true

-- from the base, the reference leads to the target's text, character for character
abbrev pub LeadsExactly : ReferenceValue → ReferenceValue → ReferenceValue → Type 0
LeadsExactly base r target = spell (resolved base r) ≡ spell target

-- its text has at most as many bytes of UTF-8
abbrev pub IsNotLonger : ReferenceValue → ReferenceValue → Type 0
IsNotLonger r s = length (spell r) ≤ length (spell s)
