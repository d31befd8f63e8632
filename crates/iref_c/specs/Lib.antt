pub mod Answers
pub mod Comparison
pub mod Faults
pub mod PartRanges
