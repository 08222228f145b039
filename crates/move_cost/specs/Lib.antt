pub mod Costs
pub mod Rate
pub mod Pace
pub mod Plans
pub mod Counting
pub mod CostText
