pub mod Resolves
pub mod Tied
