pub mod Rows
pub mod Counts
pub mod Changes
pub mod Words
pub mod Puts
pub mod Walks
pub mod Built
