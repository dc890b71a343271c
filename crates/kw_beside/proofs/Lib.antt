pub mod Chunks
pub mod Counts
pub mod LineCuts
pub mod ReadParts
pub mod Readers
pub mod TwoParts
