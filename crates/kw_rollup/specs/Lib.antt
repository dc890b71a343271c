pub mod Buckets
pub mod Texts
pub mod Kept
pub mod Lines
