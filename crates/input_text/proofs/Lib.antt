mod LineRead
mod Leading
mod Calls
mod Whole
mod ByActor
