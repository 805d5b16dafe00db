pub mod Room
pub mod Told
pub mod Marked
pub mod OneRun
