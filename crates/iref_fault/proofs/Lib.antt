pub mod EncodedPlaceLemmas
pub mod PartPlaceLemmas
pub mod CutSliceLemmas
pub mod PieceLemmas
pub mod CutPieceLemmas
pub mod AuthorityFaultLemmas
pub mod ReferenceFaultLemmas
pub mod FaultLemmas
pub mod CutReadLemmas
mod FaultRows
pub mod BytePlaceLemmas
pub mod OnesPlaceLemmas
pub mod FirstCharLemmas
pub mod FirstPlaceLemmas
pub mod BracketLemmas
pub mod HostLemmas
pub mod HierarchyPlaceLemmas
pub mod FaultValueLemmas
