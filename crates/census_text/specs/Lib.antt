pub mod CensusText
pub mod Presence
pub mod TextLaws
