pub mod Completable
pub mod Journals
pub mod OneHistory
pub mod Repeated
pub mod Standing
pub mod Stopped
