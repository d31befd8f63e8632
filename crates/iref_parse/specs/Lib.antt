-- what clauses cite, for the crates above
pub use Rattle.iref_grammar.specs.Authority.{after_bracketed, bracketed, read_authority, read_host_and_port}
pub use Rattle.iref_grammar.specs.ComponentTexts.{AreComponents, spell_components}
pub use Rattle.iref_grammar.specs.Grammar.{colon, hash_sign, is_not_percent, question_mark, slash}
pub use Rattle.iref_grammar.specs.Keys.{is_same_text, text_order}
pub use Rattle.iref_grammar.specs.ComponentOffsets.{range_from, offsets_in}
pub use Rattle.iref_grammar.specs.Reference.{hierarchy, is_reference, read_reference, spell}
pub use Rattle.iref_grammar.specs.Rules.{Text}
pub use Rattle.iref_grammar.specs.Tests.{none_or, ScansTo}
pub use Rattle.iref_grammar.specs.Texts.{after, before, from_first, part_then, pieces_at, then_part}
pub use Rattle.iref_parse.specs.AuthoritySlices.{authority_of}
pub use Rattle.iref_parse.specs.IpGroups.{counted, counted_after, filled_number}
pub use Rattle.iref_parse.specs.ReferenceSlices.{texts_of, value_of}
pub mod CharRules
pub mod AuthoritySlices
pub mod ReferenceSlices
pub mod IpGroups
pub mod Ipv6Scan
pub mod Splits
pub mod Lanes
pub mod Plain
pub mod Dots
pub mod Encoded
pub mod Kept
