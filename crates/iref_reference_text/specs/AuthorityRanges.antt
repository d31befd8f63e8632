-- Where the authority of a reference stands, and the text with another one.
use Rattle.std.specs.declared.ops.Range.{Range}
use Rattle.std.proofs.{Common.{subst, ℕ, ◌≡◌, ◌≤◌, ◌+◌, true, Some, IfSome, length}, Props.{props}}
use Rattle.iref_grammar.specs.{Characters.{CharTests}, Rules.{Text}, Reference.{is_reference, read_reference}}
use Rattle.iref_grammar.specs.ComponentOffsets.{authority_mark, offsets_of, text_at}
use Rattle.iref_grammar.proofs.RangeLemmas.{IsInside, authority_inside}

-- the authority of the reference that the text spells stands there
abbrev pub IsAuthorityOf : CharTests → Text → ℕ → ℕ → Type 0
IsAuthorityOf set text start end = (is_reference set text ≡ true) × ((offsets_of text).authority ≡ Some (record { start = start; end = end }))

pub one_authority : (set : CharTests) (text : Text) (start end : ℕ) → IsProp (IsAuthorityOf set text start end)
one_authority set text start end = hlevel props

pub authority_is_within : (set : CharTests) (text : Text) (start end : ℕ) → IsAuthorityOf set text start end → (start ≤ end) × (end ≤ length text)
authority_is_within set text start end stands = subst (λ range. IfSome range (IsInside text)) stands.1 (authority_inside text)

-- what stands between the `//` and the path
abbrev pub range_of_authority : Text → Range ℕ
range_of_authority text = record { start = authority_mark (read_reference text) + 2; end = (offsets_of text).path.start }

-- the authority, where there is one
abbrev pub authority_part : Text → Text
authority_part text = text_at text (range_of_authority text)
