pub mod Entries
pub mod Header
pub mod Images
pub mod Refcounts
pub mod Tables
