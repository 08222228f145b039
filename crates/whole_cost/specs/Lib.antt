pub mod WholeRuns
pub mod Examples
