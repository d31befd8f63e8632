pub mod BelowLemmas
pub mod CacheLemmas
pub mod CheckLemmas
pub mod ContextLemmas
pub mod LinkLemmas
pub mod WrongLineLemmas
