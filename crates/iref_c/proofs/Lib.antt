pub mod AnswerLemmas
pub mod ComparisonLemmas
mod PartRangeRows
pub mod RangeLemmas
