pub mod Listed
pub mod Covered
pub mod Pushed
pub mod SetsOf
pub mod Kept
pub mod Replays
