pub mod FaultLemmas
pub mod OnDiskStructLemmas
pub mod StorageLemmas
pub mod TypesLemmas
