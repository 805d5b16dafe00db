pub mod Closing
pub mod StopFound
pub mod CycleTable
pub mod SumsRise
pub mod OneStep
