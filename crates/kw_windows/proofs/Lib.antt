pub mod Counting
pub mod Summing
pub mod Leading
pub mod Building
pub mod Keeping
pub mod Paying
pub mod Falling
pub mod Ending
