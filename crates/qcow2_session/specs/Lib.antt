pub mod Commands
pub mod EditedDisk
pub mod Lines
pub mod RepairedDisk
