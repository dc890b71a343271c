pub mod Script
pub mod Printed
pub mod Queue
pub mod State
pub mod Meaning
pub mod Output
pub mod Recorded
pub mod Sections
