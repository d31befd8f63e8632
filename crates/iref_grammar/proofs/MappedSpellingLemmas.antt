-- The mapping of a spelling is the spelling of the mapped components.
use Rattle.std.proofs.Common.{arith, ◌≡◌, ℕ, true, List, [], ◌∷◌, ◌++◌, map, refl, sym, ap, Option, Some, None, option_map}
use Rattle.std.proofs.lemmas.Grind.{common_steps}
use Rattle.std.specs.{List.{list_all, join_with_byte}, Char.{is_ascii}}
use Rattle.iref_grammar.specs.{Rules.{Text}, Texts.{part_then, then_part}, Authority.{AuthorityValue, spell_authority}}
use Rattle.iref_grammar.specs.{PathValue.{PathValue, spell_path}, Reference.{ReferenceValue, spell}}
use Rattle.iref_grammar.specs.Mapping.{mapped, mapped_authority, mapped_path, mapped_reference}
use Rattle.iref_grammar.proofs.MappedLemmas.{mapped-nil, mapped-append, mapped-kept, mapped-ascii}

pub part_then-mapped : (mark : Text) → list_all is_ascii mark ≡ true → (o : Option Text) → part_then mark (option_map mapped o) ≡ mapped (part_then mark o)
part_then-mapped mark a o = grind (arith, mapped-nil, mapped-ascii, mapped-append)

pub then_part-mapped : (mark : Text) → list_all is_ascii mark ≡ true → (o : Option Text) → then_part mark (option_map mapped o) ≡ mapped (then_part mark o)
then_part-mapped mark a o = grind (arith, mapped-nil, mapped-ascii, mapped-append)

join-mapped : (mark : ℕ) → is_ascii mark ≡ true → (ss : List Text) → join_with_byte mark (map mapped ss) ≡ mapped (join_with_byte mark ss)
join-mapped mark a [] = sym mapped-nil
join-mapped mark a (s ∷ []) = refl
join-mapped mark a (s ∷ t ∷ ss) = grind (arith, common_steps, mapped-kept, mapped-append, join-mapped mark a (t ∷ ss))

pub spell_path-mapped : (p : PathValue) → spell_path (mapped_path p) ≡ mapped (spell_path p)
unfolding spell_path
spell_path-mapped p = grind (arith, common_steps, join-mapped, mapped-kept)

pub spell_authority-mapped : (a : AuthorityValue) → spell_authority (mapped_authority a) ≡ mapped (spell_authority a)
unfolding spell_authority
spell_authority-mapped a = grind (arith, common_steps, part_then-mapped, then_part-mapped, mapped-append)

pub authority_text-mapped : (o : Option AuthorityValue) → option_map spell_authority (option_map mapped_authority o) ≡ option_map mapped (option_map spell_authority o)
authority_text-mapped None = refl
authority_text-mapped (Some a) = ap (λ t. Some t) (spell_authority-mapped a)

mapped-five : (a b c d e : Text) → mapped (a ++ b ++ c ++ d ++ e) ≡ mapped a ++ mapped b ++ mapped c ++ mapped d ++ mapped e
mapped-five a b c d e = simp mapped-append

pub spell-mapped : (r : ReferenceValue) → spell (mapped_reference r) ≡ mapped (spell r)
unfolding spell
spell-mapped r = grind (arith, common_steps, part_then-mapped, authority_text-mapped, spell_path-mapped, then_part-mapped, mapped-five)
