pub mod Bytes
pub mod Calls
pub mod Memory
pub mod Texts
