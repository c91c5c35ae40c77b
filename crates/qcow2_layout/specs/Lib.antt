pub mod Layout
pub mod Parts
pub mod Picture
pub mod Window
pub mod Windows
