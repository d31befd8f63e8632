-- The lemmas that are laws of the mapping, for the check of `mapping_laws`.
use Rattle.iref_grammar.proofs.MappedLemmas.{mapped-append, length-mapped, ascii-mapped, mapped-ascii, none_escaped, mapped-mapped}
use Rattle.iref_grammar.proofs.MappedBackLemmas.{mapped-drop, mapped_index-next, mapped_index-is, mapped-split, mapped-encoded}
use Rattle.iref_grammar.proofs.{MappedIndexLemmas.{offsets_of-mapped}, MappedReferenceLemmas.{key-mapped_text}}

pub ruleset laws = (mapped-append, length-mapped, ascii-mapped, mapped-ascii, none_escaped, mapped-mapped, mapped-drop, mapped_index-next, mapped_index-is, mapped-split, mapped-encoded, offsets_of-mapped, key-mapped_text)
