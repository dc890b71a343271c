pub mod Balancing
pub mod Gathering
pub mod Rising
