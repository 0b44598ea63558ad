pub mod Lines
pub mod Parts
pub mod Requirement
pub mod Slices
pub mod Required
