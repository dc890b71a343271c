pub mod Changes
pub mod Entries
pub mod Logs
pub mod Turns
