pub mod Here
pub mod Freezes
pub mod Builds
pub mod Puts
pub mod Lists
pub mod Positions
pub mod Below
