-- Texts of references that lead from a base to a target, the way back from resolution (RFC 3986 section 5.2).
use Rattle.std.specs.Prelude.{◌≡◌, false, true, is_some}
use Rattle.iref_grammar.specs.{Rules.{Text}, Reference.{ReferenceValue, read_reference}}
use Rattle.iref_grammar.specs.{Key.{AreAlike}, Relative.{relative_to}}
use Rattle.iref_grammar.specs.{RelativeLaws.{ClimbsLeast, DoAgree, IsOnlyPath, Leads}, Resolution.{resolved}}
use Rattle.iref_reference_text.specs.Steps.{Spells}

-- the text spells what leads from the base to the target, and is read as that
abbrev pub IsRelative : Text → Text → Text → Type 0
IsRelative target base text = Spells (relative_to (read_reference target) (read_reference base)) text

-- from a base with a scheme it leads where the target leads
abbrev pub LeadsThere : ReferenceValue → ReferenceValue → ReferenceValue → Type 0
LeadsThere target base answer = is_some base.scheme ≡ true → Leads base answer target

-- and to the target itself, where that has a scheme too
abbrev pub LeadsToTarget : ReferenceValue → ReferenceValue → ReferenceValue → Type 0
LeadsToTarget target base answer =
    is_some base.scheme ≡ true → is_some target.scheme ≡ true → AreAlike (resolved base answer) target

-- where scheme and authority agree and the target's path begins at the root, it writes neither
abbrev pub WritesPathAlone : ReferenceValue → ReferenceValue → ReferenceValue → Type 0
WritesPathAlone target base answer = DoAgree target base → IsOnlyPath answer

-- and where the base has a scheme and a path that begins there too, no relative path that leads there climbs less
abbrev pub ClimbsNoMore : ReferenceValue → ReferenceValue → ReferenceValue → Type 0
ClimbsNoMore target base answer =
    is_some base.scheme ≡ true → DoAgree target base → base.path.absolute ≡ true
    → (answer.path.absolute ≡ false) × ClimbsLeast target base answer
