mod Bodies
mod Parts
mod Pieces
mod Summing
