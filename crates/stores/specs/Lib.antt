pub mod Writes
pub mod Coming
pub mod Planned
pub mod Agree
pub mod Marked
