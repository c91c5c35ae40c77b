pub mod Failing
pub mod KnownFiles
