pub mod FileLock
pub mod HeldImage
