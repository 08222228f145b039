pub mod Lines
pub mod Turns
pub mod Places
pub mod Weights
pub mod Sound
pub mod Examples
