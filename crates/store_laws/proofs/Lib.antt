mod Repeated
mod KeptFinds
mod Turns
