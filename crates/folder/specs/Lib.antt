pub mod Calls
pub mod Held
pub mod Repairs
pub mod Saves
pub mod Tied
