pub mod Columns
pub mod EditFields
pub mod Fields
pub mod Gathering
pub mod Lines
pub mod PrefixFields
pub mod Requests
pub mod Runs
pub mod Statuses
pub mod StdStreams
-- the words of contracts, for callers that list this crate alone
pub use Rattle.iref.specs.Rules
