pub mod Edits
pub mod Settled
pub mod Steps
