pub mod EditWordLemmas
pub mod JobLemmas
pub mod JobRunLemmas
pub mod LineRunLemmas
pub mod ReplyLemmas
mod StreamLemmas
pub mod WordListLemmas
