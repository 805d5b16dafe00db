pub mod Lines
pub mod Report
pub mod Held
pub mod Marked
