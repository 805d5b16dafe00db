pub mod Telling
pub mod Bursts
pub mod Wholes
pub mod Skips
pub mod Watching
pub mod Pieces
pub mod Calling
