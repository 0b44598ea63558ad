pub mod Changes
pub mod Differences
pub mod Laws
pub mod Tied
