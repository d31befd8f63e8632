-- what clauses cite, for the crates above
pub use Rattle.iref_grammar.specs.Authority.{AuthorityValue, is_authority, read_authority, spell_authority}
pub use Rattle.iref_grammar.specs.Characters.{AreAboveAscii, CharTests}
pub use Rattle.iref_grammar.specs.ComponentTexts.{AreComponents, spell_components}
pub use Rattle.iref_grammar.specs.Contexts.{is_path_in}
pub use Rattle.iref_grammar.specs.Grammar.{colon, hash_sign, question_mark}
pub use Rattle.iref_grammar.specs.PathValue.{PathValue, read_path, spell_path}
pub use Rattle.iref_grammar.specs.ComponentOffsets.{offsets_of}
pub use Rattle.iref_grammar.specs.Reference.{context_of, hierarchy, is_readable, is_reference, read_reference, spell}
pub use Rattle.iref_grammar.specs.Rules.{InUtf8, Text}
pub use Rattle.iref_grammar.specs.Tests.{is_fragment, is_path, is_query, is_scheme, none_or}
pub use Rattle.iref_grammar.specs.Texts.{before, part_then, then_part}
pub use Rattle.iref_grammar.specs.ComponentSteps.{with_authority, with_fragment, with_path, with_query, with_scheme}
pub use Rattle.iref_grammar.specs.Guard.{guarded}
pub use Rattle.iref_grammar.specs.PathFunctions.{directory_text}
pub use Rattle.iref_grammar.specs.ReferenceParts.{base_of}
pub use Rattle.iref_parse.specs.ReferenceSlices.{texts_of, value_of}
pub use Rattle.iref_component.specs.Makers.{Parses}
pub use Rattle.iref_reference_text.specs.ComponentLengths.{context_by, HasLengths, lengths_of, placed, total_length, with_mark}
pub use Rattle.iref_reference_text.specs.PathTexts.{authority_text, with_path_read, with_path_text}
pub use Rattle.iref_reference_text.specs.RangeTexts.{AreWithin, texts_at}
pub use Rattle.iref_splice.specs.Changes.{IsWithin}
pub mod RangeTexts
pub mod ComponentLengths
pub mod PathTexts
pub mod PathRanges
pub mod MeasuredReferences
pub mod Relatives
pub mod ShortestTexts
pub mod AuthorityRanges
pub mod Steps
pub mod Fronts
pub mod Rows
