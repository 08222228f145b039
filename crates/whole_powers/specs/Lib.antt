pub mod Phases
pub mod Bounds
pub mod PowerLaws
