pub mod Standings
pub mod Tallies
