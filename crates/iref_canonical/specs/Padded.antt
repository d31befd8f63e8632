-- Texts behind which 16 more bytes can be read.
use Rattle.std.specs.Prelude.{◌≡◌, ℕ, ◌+◌, ◌≤◌, ◌++◌, Option, length, take}
use Rattle.iref_grammar.specs.{Rules.{Text}, Texts.{then_part}}
use Rattle.iref_canonical.specs.declared.padded.Padded.{Padded}

-- the text, without what stands behind it
abbrev pub text_in : Padded → Text
text_in p = take p.len p.bytes.now

-- the bytes can be read
abbrev pub IsPadded : Padded → Type 0
IsPadded p = p.len + 16 ≤ length p.bytes.now

-- a text begins with a part behind a delimiter of this length, if it is there
pub record BeginsWith (mark : ℕ) (part : Option Text) (text : Text) : Type 0 where
  pub delimiter : Text
  pub rest : Text
  pub size : length delimiter ≡ mark
  pub split : text ≡ then_part delimiter part ++ rest
