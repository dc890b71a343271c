pub mod Dealing
pub mod Collecting
pub mod Lines
pub mod LineOrder
