pub mod Draws
pub mod Load
pub mod Laws
pub mod Made
