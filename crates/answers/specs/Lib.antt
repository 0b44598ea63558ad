pub mod Answers
pub mod WithRelease
