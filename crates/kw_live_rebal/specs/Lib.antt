pub mod Rebalancing
pub mod Standing
pub mod Stretches
