pub mod Registers
pub mod State
