pub mod Frozen
pub mod Full
pub mod Copies
pub mod OverFrozen
pub mod Shares
