pub mod Reports
pub mod SoundTexts
