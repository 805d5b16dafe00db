pub mod Bytes
pub mod Memory
pub mod Lengths
pub mod Lanes
pub mod Fetches
