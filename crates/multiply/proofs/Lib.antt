pub mod InternalCycles
pub mod Meaning
