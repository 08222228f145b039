mod WalkedAlike
mod LineNetwork
mod Flatness
