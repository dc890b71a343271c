pub mod Puts
pub mod Kept
pub mod Needed
pub mod Readers
