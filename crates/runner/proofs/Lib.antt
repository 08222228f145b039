mod Moving
mod Finding
mod Working
mod Finishing
mod Playing
mod Starting
mod Turning
mod Idle
