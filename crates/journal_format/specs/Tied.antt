-- What serves proofs alone.
pub mod LawfulTargets
pub mod Members
