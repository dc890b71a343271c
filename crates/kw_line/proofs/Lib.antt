pub mod Decimals
pub mod Parts
pub mod Texts
pub mod Joins
pub mod Unique
