pub mod ApartLemmas
pub mod ApplyLemmas
pub mod BlocksLemmas
pub mod BooksLemmas
pub mod BrokenLemmas
pub mod ChangedClustersLemmas
pub mod ChangesLemmas
pub mod CheckedLemmas
pub mod CounterTablesLemmas
mod CrashesExamples
pub mod CrashesLemmas
pub mod EditsByTableLemmas
pub mod ErrorsLemmas
pub mod FalseFlagsLemmas
pub mod GainsLemmas
pub mod GuestEditsLemmas
pub mod HeaderLeftLemmas
pub mod MadeEditsLemmas
pub mod MappedClustersLemmas
pub mod MissingLemmas
pub mod NeededTablesLemmas
mod OrderExamples
pub mod OrderLemmas
pub mod PassesLemmas
pub mod PlanLemmas
pub mod PlannedChangesLemmas
pub mod PlannedTablesLemmas
pub mod TablesLemmas
