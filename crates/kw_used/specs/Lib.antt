pub mod Few
pub mod Seats
pub mod Used
