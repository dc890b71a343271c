pub mod Texts
pub mod Record
pub mod Good
pub mod Index
pub mod Line
pub mod Verdict
pub mod Reader
pub mod Written
