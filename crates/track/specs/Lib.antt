pub mod Transfer
pub mod Results
pub mod Bodies
pub mod Ends
pub mod Laws
pub mod Places
pub mod Examples
pub mod Sounds
