pub mod Playing
pub mod PlayLaws
pub mod Roles
pub mod Workers
pub mod Runs
pub mod Examples
