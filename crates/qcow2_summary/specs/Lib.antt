pub mod Consistency
pub mod EntryCounts
pub mod ImageEnd
