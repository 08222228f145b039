mod Apart
mod Opening
mod Parts
mod Adding
