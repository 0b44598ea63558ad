pub mod SetsCompleted
pub mod SetsChecked
pub mod SetsGrounded
pub mod Lent
