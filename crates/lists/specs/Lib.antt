pub mod Answers
pub mod Bits
pub mod Rising
pub mod Spaces
