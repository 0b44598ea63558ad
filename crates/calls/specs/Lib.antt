pub mod AskedEdits
pub mod Pools
pub mod Replaces
pub mod Retargets
pub mod Stops
pub mod SubcommandFiles
pub mod Tied
