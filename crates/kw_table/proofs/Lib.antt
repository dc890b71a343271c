pub mod Slots
pub mod Prefixes
pub mod Stepping
pub mod Sharing
pub mod Walks
pub mod Calls
pub mod Fresh
pub mod Carried
