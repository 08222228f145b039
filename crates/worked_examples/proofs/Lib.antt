mod Apart
mod Looks
mod Held
mod Named
mod Square
mod Unlike
