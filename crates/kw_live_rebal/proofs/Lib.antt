pub mod Sightings
pub mod Stages
pub mod Finishing
pub mod Building
pub mod Standings
