-- What serves proofs alone.
pub mod Covers
pub mod Domains
pub mod Replay
