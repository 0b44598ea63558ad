mod GivesWay
pub mod Pools
mod ReadLines
