pub mod CallRuns
pub mod FirstRuns
pub mod StoppedCalls
