pub mod Gathered
pub mod Causes
