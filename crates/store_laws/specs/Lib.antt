pub mod Repeats
pub mod Stepping
pub mod Examples
