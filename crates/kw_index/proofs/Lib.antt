pub mod Filtered
pub mod Lawful
pub mod Placed
pub mod Guessed
pub mod Marked
pub mod Brought
