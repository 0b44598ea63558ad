pub mod Shape
pub mod Files
pub mod Python
pub mod Release
pub mod Releases
pub mod Lawful
pub mod Packages
pub mod Tied
