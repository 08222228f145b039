pub mod Numbers
pub mod Cells
pub mod Routes
pub mod Homes
pub mod Words
