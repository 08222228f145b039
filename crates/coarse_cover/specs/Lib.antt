pub mod Coarsening
pub mod Covers
pub mod CoverLaws
pub mod HalfMade
