-- Texts that references resolve to (RFC 3986 section 5.2).
use Rattle.iref_grammar.specs.{Rules.{Text}, Reference.{read_reference}}
use Rattle.iref_grammar.specs.Resolution.{resolved}
use Rattle.iref_reference_text.specs.Steps.{Spells}

-- the text spells what the reference resolves to against the base, and is read as that
abbrev pub IsResolved : Text → Text → Text → Type 0
IsResolved base reference text = Spells (resolved (read_reference base) (read_reference reference)) text
