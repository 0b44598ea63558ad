pub mod Errors
pub mod Faults
pub mod FileNames
pub mod Handed
pub mod Inputs
pub mod Pins
pub mod PinsFiles
pub mod TargetFiles
