pub mod Bits
pub mod Fault
pub mod Format
pub mod OnDiskStruct
pub mod Storage
pub mod Types
