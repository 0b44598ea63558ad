pub mod Choices
pub mod Grounds
pub mod Tied
