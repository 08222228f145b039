pub mod Tree
pub mod Faults
pub mod Weighing
pub mod PlaceLaws
pub mod Inside
