pub mod InternalCycles
pub mod Multiply
pub mod Meaning
