pub mod Gather
pub mod Handing
pub mod GatherNumbers
pub mod GatherList
pub mod Scanning
pub mod Refusals
pub mod Kiwi
pub mod Meetings
