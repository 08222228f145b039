mod Asking
mod Boxed
mod EdgeLaws
mod Loading
mod OpeningLaws
mod Pairs
mod Reading
mod Ways
