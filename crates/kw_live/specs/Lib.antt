pub mod Beginning
pub mod Sights
pub mod Stages
pub mod Walking
pub mod Putting
pub mod Reading
pub mod Streaming
pub mod Getting
