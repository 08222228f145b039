pub mod OwnStretch
pub mod Plans
pub mod StretchText
pub mod Tables
