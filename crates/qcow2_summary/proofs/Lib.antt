mod FindingsExamples
pub mod ApartLemmas
pub mod ClustersLemmas
pub mod EntryCountsLemmas
pub mod ImageEndLemmas
pub mod ReportedLemmas
pub mod SampleImage
