mod Pairs
mod Fields
mod Orders
mod Runs
