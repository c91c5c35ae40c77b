pub mod Buffered
pub mod Pages
