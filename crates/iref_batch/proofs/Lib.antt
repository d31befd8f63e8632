pub mod AnswerLemmas
pub mod EditAnswerLemmas
pub mod EditFieldLemmas
pub mod EndLemmas
pub mod FieldLemmas
pub mod InputLemmas
pub mod LineLawLemmas
pub mod LineLemmas
mod LineRows
pub mod FieldListLemmas
pub mod PrefixFieldLemmas
pub mod PrefixAnswerLemmas
pub mod OutputLemmas
pub mod ReplyLemmas
pub mod RunLemmas
pub mod SeenLemmas
pub mod Writing
pub mod WiderLineLemmas
