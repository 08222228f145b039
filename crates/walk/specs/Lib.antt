pub mod Walks
pub mod Climbs
pub mod ReaderLaws
pub mod LookLaws
