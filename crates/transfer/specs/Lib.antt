pub mod Single
pub mod Block
pub mod Modes
pub mod Indexing
pub mod SingleData
