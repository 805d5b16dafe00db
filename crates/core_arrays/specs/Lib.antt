pub mod Counts
pub mod Fetched
pub mod Phases
pub mod CoreArray
pub mod Places
