-- The text of an authority that is edited in place.
use Rattle.std.specs.{Prelude.{ℕ, Bool, ◌≡◌, true, length}, List.{splice}, Str.{IsUtf8}}
use Rattle.std.proofs.Props.{props}
use Rattle.iref_grammar.specs.{Characters.{CharTests, AreAboveAscii}, Rules.{Text}}
use Rattle.iref_grammar.specs.Authority.{AuthorityValue, spell_authority, read_authority, is_authority}
use Rattle.iref_grammar.proofs.AuthorityRuleLemmas.{Decides-is_authority}
use Rattle.iref_splice.specs.Changes.{IsWithin}

-- the text spells this authority, is in the rule, and is read as it
pub record SpellsAuthority (set : CharTests) (text : Text) (value : AuthorityValue) : Type 0 where
  pub spelled : text ≡ spell_authority value
  pub in_rule : is_authority set text ≡ true
  pub read : read_authority text ≡ value

-- a part of an authority stands in this range, or would: with another in its place, which is in its rule, the text spells this step
pub record IsRangeOf {P : Type 0} (set : CharTests) (text : Text) (start end : ℕ) (in_rule : P → Bool) (spelled : P → Text) (step : P → AuthorityValue → AuthorityValue) : Type 0 where
  pub within : IsWithin text (record { start = start; end = end })
  pub replaced : (part : P) → in_rule part ≡ true → SpellsAuthority set (splice text start end (spelled part)) (step part (read_authority text))

-- the range is all of the text
abbrev pub IsWhole : Text → ℕ → ℕ → Type 0
IsWhole text start end = (start ≡ 0) × (end ≡ length text)

pub one_whole : (text : Text) (start end : ℕ) → IsProp (IsWhole text start end)
one_whole text start end = hlevel props

-- the text is edited by a step: it spells the step of what the old text is read as, and is read as that
abbrev pub IsStep : (AuthorityValue → AuthorityValue) → Text → Text → Type 0
IsStep step old new = (new ≡ spell_authority (step (read_authority old))) × (read_authority new ≡ step (read_authority old))

-- an authority is text
pub authority_is_text : (set : CharTests) → AreAboveAscii set → (text : Text) → is_authority set text ≡ true → IsUtf8 text
authority_is_text set above text h = let z = (Decides-is_authority set above text).0 h in (z.0, (z.1, z.2))
