-- What serves proofs alone.
pub mod Demands
pub mod Demanded
pub mod Gathering
pub mod Learned
pub mod Learning
pub mod Refusals
