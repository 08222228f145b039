pub mod Tracking
pub mod Costs
pub mod Plans
pub mod NearOutcomes
