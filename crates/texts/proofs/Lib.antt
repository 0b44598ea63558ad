pub mod FieldsTold
pub mod SplicesTold
pub mod WheelSearch
