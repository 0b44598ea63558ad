pub mod BatchEnds
pub mod BatchLine
pub mod Faults
pub mod Needed
pub mod Replies
pub mod Runs
pub mod Streams
pub mod Tied
