pub mod Pairs
pub mod Cells
pub mod Kept
pub mod Ordered
pub mod InOrder
pub mod Cuts
pub mod Plain
