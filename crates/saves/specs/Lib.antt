pub mod Applied
pub mod Called
pub mod Forgets
pub mod StoppedCalls
pub mod Tied
