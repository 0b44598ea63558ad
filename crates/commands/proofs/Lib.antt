pub mod Lines
pub mod IfNeeded
pub mod Texts
pub mod BatchEnds
pub mod Batches
pub mod WorkedRows
