-- Where the parts of an authority stand, by the lengths of its slices.
use Rattle.std.proofs.Common.{◌≡◌, ℕ, ◌+◌, [], ◌∷◌, length, refl, ap, ◌∙◌, length-append, arith, Option, Some, None, IfSome, option_map}
use Rattle.iref.specs.{Rules.{Text}, Grammar.{at_sign, colon}, Texts.{part_then, then_part}}
use Rattle.iref.specs.{Authority.{AuthorityValue, read_authority, spell_authority}, Offsets.{Offsets}}
use Rattle.iref.specs.{Reference.{ReferenceValue}, ComponentOffsets.{authority_mark, range_from, offsets_in}}
use Rattle.iref.proofs.AuthorityLemmas.{read_authority-spelled}
use Rattle.iref_c.specs.{declared.ranges.ByteRange.{ByteRange}, PartRanges.{authority_ranges, range_for_c, ranges_from}}

-- an authority is as long as its parts and their delimiters
pub length-spelled : (a : AuthorityValue) → length (spell_authority a) ≡ length (part_then (at_sign ∷ []) a.user_info) + length a.host + length (then_part (colon ∷ []) a.port)
unfolding spell_authority
length-spelled a = simp (length-append)

-- what is read from a text is spelled as long as it
pub length-read : (text : Text) → length (spell_authority (read_authority text)) ≡ length text
length-read text = ap length (read_authority-spelled text)

-- an authority is where the ranges of the components say
pub authority-placed : (r : ReferenceValue) (ranges : Offsets) (range : ByteRange) → ranges ≡ offsets_in r → range ≡ range_for_c ranges.authority
    → range ≡ range_for_c (option_map (range_from (authority_mark r + 2)) (option_map spell_authority r.authority))
unfolding offsets_in
authority-placed r ranges range e h = h ∙ ap (λ (o : Offsets). range_for_c o.authority) e

-- the range of an authority that is there ends this number of bytes after its start
pub range-ends : (start : ℕ) (text : Option Text) (range : ByteRange) → range ≡ range_for_c (option_map (range_from start) (option_map spell_authority (option_map read_authority text)))
    → IfSome text (λ t. range.end ≡ range.start + length t)
range-ends start None range e = tt
range-ends start (Some t) range e =
    let begins : range.start ≡ start = ap (λ p. p.start) e in
    let ends : range.end ≡ start + length (spell_authority (read_authority t)) = ap (λ p. p.end) e in
    omega (arith, begins, ends, length-read t)

-- and the parts stand in it from there on
pub placed-parts : (start : ℕ) (a : Option AuthorityValue) (range : ByteRange) → range ≡ range_for_c (option_map (range_from start) (option_map spell_authority a))
    → authority_ranges range.start a ≡ authority_ranges start a
placed-parts start None range e = refl
placed-parts start (Some a) range e = ap (λ p. ranges_from p.start a) e
