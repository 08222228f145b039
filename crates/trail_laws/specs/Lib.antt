pub mod Trail
pub mod Rightness
pub mod Ways
pub mod Chased
pub mod Within
pub mod Phases
pub mod RightOutcomes
pub mod Censuses
