-- What serves proofs alone.
pub mod LockForLines
pub mod JoinedTargets
pub mod Locks
pub mod Dependencies
pub mod Entries
