pub mod Refuted
pub mod Steps
pub mod WorkLeft
