-- What serves proofs alone.
pub mod Front
pub mod Nodes
pub mod Search
pub mod Taken
