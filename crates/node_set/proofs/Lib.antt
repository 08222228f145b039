mod Blocks
mod Words
mod Remains
mod Scans
mod Limiting
mod Leading
mod Turns
