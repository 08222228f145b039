mod Places
mod Gathering
mod Growing
mod Joining
mod Rounding
