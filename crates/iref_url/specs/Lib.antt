-- the words of contracts, for callers that list this crate
pub use Rattle.url.specs.Parser
pub use Rattle.url.specs.Parts
