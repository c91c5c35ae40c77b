pub mod BlankTables
pub mod Extents
pub mod Images
pub mod KeptTable
pub mod L2Tables
pub mod Lookups
pub mod WholeImage
