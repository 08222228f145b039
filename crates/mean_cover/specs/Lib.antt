pub mod Covering
pub mod MeanCovers
pub mod HalfMade
pub mod Examples
