pub mod Sums
pub mod Builders
pub mod Windows
pub mod Events
pub mod Counted
pub mod Prices
pub mod Triples
pub mod Ends
