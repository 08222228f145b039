pub mod Scripts
pub mod Laws
pub mod ScriptLaws
pub mod MostLaws
