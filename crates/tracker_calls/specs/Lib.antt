pub mod Added
pub mod Moves
pub mod WholeMoves
pub mod Finds
pub mod RightAnswers
pub mod FaultLaws
