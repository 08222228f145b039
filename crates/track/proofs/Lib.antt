mod Answering
mod Passing
mod Ending
mod OneText
mod Words
mod Replaying
mod Sounding
