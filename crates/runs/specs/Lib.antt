pub mod Run
pub mod Boundary
pub mod CyclesLeft
pub mod Whole
