mod Readers
mod Climbing
