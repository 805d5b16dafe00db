pub mod Request
pub mod Figures
pub mod Answer
pub mod Choice
pub mod Folds
pub mod Heard
pub mod Texts
pub mod Marked
