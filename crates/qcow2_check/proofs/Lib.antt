mod RepeatsExamples
pub mod CountersLemmas
pub mod CountingLemmas
pub mod FailuresLemmas
pub mod FileEndLemmas
pub mod FindingsLemmas
pub mod FindingsListLemmas
pub mod FlagsLemmas
pub mod GroupsLemmas
pub mod NamedTablesLemmas
pub mod RepeatedLemmas
pub mod RepeatsLemmas
pub mod SinkLemmas
pub mod SolesLemmas
pub mod TallyLemmas
pub mod TotalsLemmas
pub mod UsesLemmas
