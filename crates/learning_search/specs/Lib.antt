pub mod Found
pub mod Tied
