-- what clauses cite, for the crates above
pub use Rattle.iref_grammar.specs.Authority.{is_authority, read_authority, spell_authority}
pub use Rattle.iref_grammar.specs.Characters.{CharTests}
pub use Rattle.iref_grammar.specs.ComponentTexts.{AreComponents, spell_components}
pub use Rattle.iref_grammar.specs.Grammar.{hash_sign, IsUri, IsUriReference}
pub use Rattle.iref_grammar.specs.PathValue.{spell_path}
pub use Rattle.iref_grammar.specs.ComponentOffsets.{offsets_of}
pub use Rattle.iref_grammar.specs.Reference.{hierarchy, is_uri, is_reference, read_reference, ReferenceValue, spell}
pub use Rattle.iref_grammar.specs.Rules.{InUtf8, Text}
pub use Rattle.iref_grammar.specs.Tests.{is_scheme, none_or}
pub use Rattle.iref_grammar.specs.Texts.{before}
pub use Rattle.iref_grammar.specs.ComponentSteps.{with_authority, with_fragment, with_path, with_query, with_scheme}
pub use Rattle.iref_grammar.specs.Key.{key, key_cmp}
pub use Rattle.iref_grammar.specs.ReferenceParts.{base_of, host_of, port_of, user_info_of}
pub use Rattle.iref_parse.specs.ReferenceSlices.{texts_of}
pub use Rattle.iref_canonical.specs.Hashed.{fed_reference}
pub use Rattle.iref_canonical.specs.HashedParts.{fed_components}
pub use Rattle.iref_component.specs.Components.{text_of}
pub use Rattle.iref_component.specs.Makers.{ParsesUtf8}
pub use Rattle.iref_component.specs.Comparisons.{ComparesBy}
pub use Rattle.iref_component.specs.Paths.{path_value}
pub use Rattle.iref_reference_text.specs.Steps.{IsStep}
pub use Rattle.iref_reference.specs.Parts.{key_of_parts, part_texts, parts_value, scheme_key, uri_part_texts, uri_parts_key, uri_parts_value, uri_ref_part_texts, uri_ref_parts_key, uri_ref_parts_value}
pub use Rattle.iref_reference.specs.References.{NarrowsToUri, HasSchemeOrRefused, OwnerNarrowsToUri, ParsesReference, ParsesReferenceBuf, key_of_reference, key_of_reference_buf, reference_buf_text, reference_buf_value, reference_text, reference_value}
pub mod CanonicalTexts
pub mod Comparisons
pub mod Conversions
pub mod HandedBack
pub mod Mappings
pub mod Parts
pub mod References
pub mod Relatives
pub mod Shortest
pub mod Resolutions
pub mod ReferenceSuffixes
pub mod SortKeys
