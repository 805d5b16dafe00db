pub mod Machine
pub mod Cycle
pub mod Room
pub mod StopFound
pub mod Fresh
pub mod CycleTable
