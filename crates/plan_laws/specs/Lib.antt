pub mod SameWalks
pub mod Examples
