-- what clauses cite, for the crates above
pub use Rattle.iref_grammar.specs.Contexts.{alone}
pub use Rattle.iref_grammar.specs.Grammar.{colon, slash}
pub use Rattle.iref_grammar.specs.Keys.{text_order}
pub use Rattle.iref_grammar.specs.PathValue.{read_path, segments_of}
pub use Rattle.iref_grammar.specs.Tests.{is_path}
pub use Rattle.iref_grammar.specs.Texts.{is_empty, pieces_at}
pub use Rattle.iref_grammar.specs.CountedEquality.{IsCountedAnswer, items_compared}
pub use Rattle.iref_grammar.specs.NormalList.{is_dot_dot, is_name, normal_segments}
pub use Rattle.iref_grammar.specs.NormalReading.{open_before, staying_before}
pub use Rattle.iref_grammar.specs.PathKey.{path_key, path_key_cmp}
pub use Rattle.iref_grammar.specs.PathSteps.{normalized}
pub use Rattle.iref_path.specs.Pieces.{pieces_if_some, text_at, value_at}
pub use Rattle.iref_path.specs.NormalItems.{decoded_left, first_or, IsSound, KeepsEnds, names_left, normal_left, open_at_start, to_read}
pub use Rattle.iref_path.specs.Spelling.{each_closed}
pub mod Named
pub mod Pieces
pub mod Spelling
pub mod CountedPath
pub mod CountedSegments
pub mod NormalItems
pub mod PathParts
pub mod StepTexts
pub mod MergedPaths
pub mod ItemOrders
pub mod StepsBetween
pub mod ShortestPaths
pub mod Bodies
pub mod MeasuredPaths
pub mod Suffixes
pub mod Stacks
pub mod Rewriting
pub mod Written
pub mod Slashes
pub mod Forward
