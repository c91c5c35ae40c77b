pub mod Counters
pub mod Flags
pub mod Left
pub mod Refusals
pub mod Repair
