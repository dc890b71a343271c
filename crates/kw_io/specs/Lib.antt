pub mod Counts
pub mod Bytes
pub mod Fakes
pub mod Errors
