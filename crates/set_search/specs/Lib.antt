pub mod SetVerdict
