pub mod OrderLines
pub mod OrderLaws
pub mod Runs
pub mod Shorts
