pub mod Cut
pub mod Line
pub mod Answered
pub mod Quiet
